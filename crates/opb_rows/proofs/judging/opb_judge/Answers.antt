-- `opb_judge` meets its contract: the evaluator's answer, said.
use mathlib.Core.Path.{ap, ◌∙◌}
use Rattle.opb_rows.specs.ByValue.{value_answer}
use Rattle.opb_rows.proofs.judging.opb_judge.Goals as goal

pub returns : goal.returns
returns c =
    c.value_of.ensures ∙ ap value_answer c.judge.ensures
