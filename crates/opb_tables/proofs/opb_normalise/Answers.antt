-- `opb_normalise` meets its contract: what `normalise` answers, as C has it, and leaves.
use Rattle.opb_tables.proofs.Told.{normal-told}
use Rattle.opb_tables.proofs.opb_normalise.Goals as goal

pub returns : goal.returns
returns c = normal-told _ _ _ _ _ c.normalise.ensures c.table_answer.ensures
