-- `read_kind` has one possible answer for each input: two that its contract allows are equal.
use mathlib.Core.Path.{◌≡◌, sym, ◌∙◌}
use Rattle.kinds.proofs.read_kind.Reads as read-kind

pub read-kind-one : (κs : _) (a : _) (r r' : _) (s s' : _) → read-kind.Post κs a r s → read-kind.Post κs a r' s' → r ≡ r'
read-kind-one κs a r r' s s' p q = p ∙ sym q
