-- `opb_read` meets its contract: what `parse_opb_data` answers, as C has it, and leaves.
use Rattle.opb_tables.proofs.Told.{read_told}
use Rattle.opb_tables.proofs.opb_read.Goals as goal

pub returns : goal.returns
returns c = read_told _ _ _ _ _ _ c.parse_opb_data.ensures c.table_answer.ensures
