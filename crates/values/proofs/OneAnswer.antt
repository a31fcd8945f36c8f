-- `read_values` has one possible answer for each input, and leaves one content in each of the two rows: two that its
-- contract allows are equal. The block is not changed.
use mathlib.Core.Path.{◌≡◌, sym, ◌∙◌}
use Rattle.definitions.proofs.KnownAnswers.{length-known}
use Rattle.values.proofs.read_values.Reads as read-values

pub read-values-one : (κs : _) (a : _) (r r' : _) (s s' : _) → read-values.Post κs a r s → read-values.Post κs a r' s'
    → (r ≡ r') × (s.1.1.0.now ≡ s'.1.1.0.now) × (s.1.1.1.0.now ≡ s'.1.1.1.0.now)
read-values-one κs a r r' s s' p q =
    (length-known r r' (p.answer ∙ sym q.answer), p.values ∙ sym q.values, p.known ∙ sym q.known)
