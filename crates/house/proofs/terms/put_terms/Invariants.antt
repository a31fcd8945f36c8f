-- `put_terms` meets its contract: each turn puts one term behind the others (`TermsAt`, house_measures'
-- proofs/TermsWalk.antt).
use lib.ListN.{length}
use Rattle.laws.proofs.Puts.{Puts}
use Rattle.house_measures.proofs.TermsWalk.{TermsAt}
use Rattle.house.proofs.terms.put_terms.Given as goal

abbrev pub invariant-loop-weight : goal.invariant-loop-weight
invariant-loop-weight l = TermsAt l.first l.weights l.literals (length l.yielded) (λ s. Puts s l.at l.initial.out l.end l.out)
