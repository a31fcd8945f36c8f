-- `opb_write` meets its contract: what `write_opb_lines` answers, as C has it, and leaves.
use Rattle.opb_texts.proofs.Told.{write-told}
use Rattle.opb_texts.proofs.opb_write.Goals as goal

pub returns : goal.returns
returns c = write-told _ _ _ _ _ _ _ _ c.write_opb_lines.ensures c.text_answer.ensures
