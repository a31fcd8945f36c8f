-- Each public function has one possible answer for each input, and leaves one content in the columns that it fills: two
-- that its contract allows are equal.
use mathlib.Core.Path.{◌≡◌, sym, ◌∙◌}
use Rattle.definitions.proofs.KnownAnswers.{length-known}
use Rattle.fills.proofs.terms.fill_terms.Reads as fill-terms
use Rattle.fills.proofs.steps.fill_at.Reads as fill-at

pub fill-terms-one : (κs : _) (a : _) (r r' : _) (s s' : _) → fill-terms.Post κs a r s → fill-terms.Post κs a r' s'
    → (r ≡ r') × (s.1.1.0.now ≡ s'.1.1.0.now) × (s.1.1.1.0.now ≡ s'.1.1.1.0.now)
fill-terms-one κs a r r' s s' p q = (
  length-known r r' (p.answer ∙ sym q.answer),
  p.filled.weights ∙ sym q.filled.weights,
  p.filled.literals ∙ sym q.filled.literals,
)

pub fill-at-one : (κs : _) (a : _) (r r' : _) (s s' : _) → fill-at.Post κs a r s → fill-at.Post κs a r' s'
    → (r ≡ r') × (s.1.1.1.0.now ≡ s'.1.1.1.0.now) × (s.1.1.1.1.0.now ≡ s'.1.1.1.1.0.now)
fill-at-one κs a r r' s s' p q = (
  length-known r r' (p.answer ∙ sym q.answer),
  p.filled.weights ∙ sym q.filled.weights,
  p.filled.literals ∙ sym q.filled.literals,
)
