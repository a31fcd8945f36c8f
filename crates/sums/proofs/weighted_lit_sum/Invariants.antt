-- `weighted_lit_sum` meets its contract: the loop stands at an offset with the terms before it counted and put
-- (`Walking`, proofs/Walking.antt), behind a run of plain terms it still does (proofs/Runs.antt), and behind one term
-- more. The measure is what is left of the text.
use Prim.Native.Nat.{◌-◌}
use lib.ListN.{length}
use Rattle.sums.proofs.Walking.{Walking}
use Rattle.sums.proofs.weighted_lit_sum.Given as goal

abbrev pub invariant-loop-term : goal.invariant-loop-term
invariant-loop-term l =
    Walking l.options l.s l.initial.weights l.initial.literals l.at l.count l.size l.weights l.literals

abbrev pub decreases-loop-term : goal.decreases-loop-term
decreases-loop-term l = length l.s - l.at
