-- `blanks::blanks_of` meets its contract. The loop's invariant: i blanks are passed; Assumes nothing.
use Rattle.blanks.proofs.Blanks.{Passed}
use Rattle.blanks.proofs.blanks_of.Given as goal

abbrev pub invariant-loop-i : goal.invariant-loop-i
invariant-loop-i l = Passed l.s l.i
