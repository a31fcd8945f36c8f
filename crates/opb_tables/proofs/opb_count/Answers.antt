-- `opb_count` meets its contract: what `count_file` answers, as C has it.
use mathlib.Core.Path.{ap, ◌∙◌}
use Rattle.table_answers.specs.ByValue.{table_answer}
use Rattle.opb_tables.proofs.opb_count.Goals as goal

pub returns : goal.returns
returns c = c.table_answer.ensures ∙ ap table_answer c.count_file.ensures
