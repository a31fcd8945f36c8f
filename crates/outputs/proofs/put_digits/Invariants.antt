-- `put_digits` meets its contract: the loop writes four digits a turn, the last ones first, and what is left has four
-- or fewer (`Writing`, proofs/PrintLaws.antt).
use Rattle.outputs.proofs.PrintLaws.{Writing}
use Rattle.outputs.proofs.put_digits.Given as goal

abbrev pub invariant-loop-x : goal.invariant-loop-x
invariant-loop-x l = Writing l.initial.out l.m l.at l.n l.out l.x l.k

abbrev pub decreases-loop-x : goal.decreases-loop-x
decreases-loop-x l = l.x
