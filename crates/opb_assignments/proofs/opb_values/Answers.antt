-- `opb_values` meets its contract: what `read_values` answers and leaves (proofs/Told.antt).
use Rattle.opb_assignments.proofs.Told.{values-told}
use Rattle.opb_assignments.proofs.opb_values.Goals as goal

pub returns-in-Err : goal.returns-in-Err
returns-in-Err c = values-told _ _ _ _ _ _ _ _ _ c.read_values.ensures c.in-Err.is c.refused_length.ensures

pub returns-in-Ok : goal.returns-in-Ok
returns-in-Ok c = values-told _ _ _ _ _ _ _ _ _ c.read_values.ensures c.in-Ok.is c.length_of.ensures
