-- `fill` has one possible answer for each input, and leaves one content of each column: two that its contract allows
-- are equal.
use mathlib.Core.Path.{◌≡◌, sym, ◌∙◌}
use Rattle.definitions.proofs.KnownAnswers.{length-known}
use Rattle.held_fills.proofs.fill.Reads as fill

pub fill_one : (κs : _) (a : _) (r r' : _) (s s' : _) → fill.Post κs a r s → fill.Post κs a r' s'
    → (r ≡ r') × (s.1.0.now ≡ s'.1.0.now) × (s.1.1.0.now ≡ s'.1.1.0.now)
fill_one κs a r r' s s' p q = (
  length-known r r' (p.answer ∙ sym q.answer),
  p.filled.weights ∙ sym q.filled.weights,
  p.filled.literals ∙ sym q.filled.literals,
)
