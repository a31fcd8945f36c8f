-- `terms_length` meets its contract: each turn adds the length of one term that has a file number (`TermsAt`,
-- proofs/TermsWalk.antt).
use mathlib.Core.Path.{◌≡◌}
use lib.ListN.{length}
use Rattle.definitions.specs.Refusal.{needed}
use Rattle.house_measures.proofs.TermsWalk.{TermsAt}
use Rattle.house_measures.proofs.terms.terms_length.Given as goal

abbrev pub invariant-loop-weight : goal.invariant-loop-weight
invariant-loop-weight l = TermsAt l.first l.weights l.literals (length l.yielded) (λ s. l.total ≡ needed (length s))
