-- Each public function has one possible answer for each input, and leaves one content in what it is lent: two that its
-- contract allows are equal.
use mathlib.Core.Path.{◌≡◌, sym, ◌∙◌}
use Rattle.bits.proofs.bit_at.Reads as bit_at
use Rattle.bits.proofs.make_bit.Reads as make-bit
use Rattle.bits.proofs.is_otherwise.Reads as is-otherwise
use Rattle.bits.proofs.make_true.Reads as make-true

pub bit-at-one : (κs : _) (a : _) (r r' : _) (s s' : _) → bit_at.Post κs a r s → bit_at.Post κs a r' s' → r ≡ r'
bit-at-one κs a r r' s s' p q = p ∙ sym q

pub make-bit-one : (κs : _) (a : _) (r r' : _) (s s' : _) → make-bit.Post κs a r s → make-bit.Post κs a r' s' → s.0.now ≡ s'.0.now
make-bit-one κs a r r' s s' p q = p ∙ sym q

pub is-otherwise-one : (κs : _) (a : _) (r r' : _) (s s' : _) → is-otherwise.Post κs a r s → is-otherwise.Post κs a r' s' → r ≡ r'
is-otherwise-one κs a r r' s s' p q = p ∙ sym q

pub make-true-one : (κs : _) (a : _) (r r' : _) (s s' : _) → make-true.Post κs a r s → make-true.Post κs a r' s'
    → (s.1.0.now ≡ s'.1.0.now) × (s.1.1.0.now ≡ s'.1.1.0.now)
make-true-one κs a r r' s s' p q = (p.0 ∙ sym q.0, p.1 ∙ sym q.1)
