-- `opb_list` meets its contract: what `list_table` answers, as C has it, and leaves.
use Rattle.opb_texts.proofs.Told.{list-told}
use Rattle.opb_texts.proofs.opb_list.Goals as goal

pub returns : goal.returns
returns c = list-told _ _ _ _ _ _ _ c.list_table.ensures c.text_answer.ensures
