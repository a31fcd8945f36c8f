-- `put_terms` meets its contract: each turn puts one term (`Putting`, proofs/PieceLaws.antt).
use lib.ListN.{length}
use Rattle.lines.proofs.PieceLaws.{Putting}
use Rattle.lines.proofs.terms.put_terms.Given as goal

abbrev pub invariant-loop-weight : goal.invariant-loop-weight
invariant-loop-weight l = Putting l.style l.weights l.literals l.at l.initial.out (length l.yielded) l.end l.sums l.out
