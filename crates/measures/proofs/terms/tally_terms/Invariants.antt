-- `tally_terms` meets its contract: each turn counts one term (`Tallying`, proofs/Tallying.antt).
use lib.ListN.{length}
use Rattle.measures.proofs.Tallying.{Tallying}
use Rattle.measures.proofs.terms.tally_terms.Given as goal

abbrev pub invariant-loop-weight : goal.invariant-loop-weight
invariant-loop-weight l = Tallying l.style l.weights l.literals (length l.yielded) l.t
