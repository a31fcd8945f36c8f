-- `shifts::rise_of` meets its contract. The loop's invariant: the rise so far and that of the weights left are the
-- whole, up to the cap (`Risen`, proofs/Rises.antt). Assumes nothing.
use Rattle.shifts.proofs.Rises.{Risen}
use Rattle.shifts.proofs.rise_of.Given as goal

abbrev pub invariant-loop-weight : goal.invariant-loop-weight
invariant-loop-weight l = Risen l.weights l.weight-index l.rise
