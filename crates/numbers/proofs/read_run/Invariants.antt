-- `read_run` meets its contract: the loop walks over the digits, and cuts their value off at the cap (`Walked`,
-- proofs/DigitWalk.antt).
use Rattle.numbers.proofs.DigitWalk.{Walked}
use Rattle.numbers.proofs.read_run.Given as goal

abbrev pub invariant-loop-i : goal.invariant-loop-i
invariant-loop-i l = Walked l.s l.i l.size
