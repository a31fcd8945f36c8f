-- `count_steps` meets its contract: the loop stands at an offset with the rows and terms before it counted
-- (`Counting`). Each line takes the offset forward (proofs/Tallies.antt), so that
-- what is left of the file falls.
use Prim.Native.Nat.{◌-◌}
use lib.ListN.{length}
use Rattle.statements.proofs.Counts.{Counting}
use Rattle.tallies.proofs.count_steps.Given as goal

abbrev pub invariant-loop-entry : goal.invariant-loop-entry
invariant-loop-entry l = Counting l.options l.s l.at l.rows l.terms

abbrev pub decreases-loop-entry : goal.decreases-loop-entry
decreases-loop-entry l = length l.s - l.at
