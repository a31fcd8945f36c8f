-- Each public function has one possible answer for each input, and leaves one content in what it is lent: two that its
-- contract allows are equal. The block is not changed.
use mathlib.Core.Path.{◌≡◌, sym, ◌∙◌}
use Rattle.settling.proofs.settle.Reads as settle

pub settle-one : (κs : _) (a : _) (r r' : _) (s s' : _) → settle.Post κs a r s → settle.Post κs a r' s'
    → (s.1.1.0.now ≡ s'.1.1.0.now) × (s.1.1.1.0.now ≡ s'.1.1.1.0.now)
settle-one κs a r r' s s' p q = (p.0 ∙ sym q.0, p.1 ∙ sym q.1)
