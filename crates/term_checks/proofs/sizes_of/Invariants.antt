-- `term_checks::sizes_of` meets its contract. The loop's invariant: the size of the weights passed, and those left, are
-- the sum up to the cap (`Summed`, proofs/SizeLaws.antt). Assumes nothing.
use Rattle.term_checks.proofs.SizeLaws.{Summed}
use Rattle.term_checks.proofs.sizes_of.Given as goal

abbrev pub invariant-loop-weight : goal.invariant-loop-weight
invariant-loop-weight l = Summed l.weights l.weight-index l.size
