-- `shift_of` has one possible answer for each input: two that its contract allows are equal. It changes nothing that it
-- is lent.
use mathlib.Core.Path.{◌≡◌, sym, ◌∙◌}
use Rattle.shifts.proofs.shift_of.Reads as Shift-of

pub shift-of-one : (κs : _) (a : _) (r r' : _) (s s' : _) → Shift-of.Post κs a r s → Shift-of.Post κs a r' s' → r ≡ r'
shift-of-one κs a r r' s s' p q = p ∙ sym q
