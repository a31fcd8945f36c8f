-- The call has one possible answer for each input, and leaves one content in the values and in the known words: two
-- that its contract allows are equal.
use mathlib.Core.Path.{◌≡◌, sym, ◌∙◌}
use Rattle.opb_assignments.proofs.opb_values.Reads as opb-values

pub opb-values-one : (κs : _) (a : _) (r r' : _) (s s' : _) → opb-values.Post κs a r s → opb-values.Post κs a r' s'
    → (r ≡ r') × (s.1.1.0.now ≡ s'.1.1.0.now) × (s.1.1.1.0.now ≡ s'.1.1.1.0.now)
opb-values-one κs a r r' s s' p q = (p.answer ∙ sym q.answer, p.values ∙ sym q.values, p.known ∙ sym q.known)
