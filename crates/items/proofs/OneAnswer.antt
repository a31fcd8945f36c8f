-- Each public function has one possible answer for each input: two that its contract allows are equal. None changes
-- what it is lent.
use mathlib.Core.Path.{◌≡◌, sym, ◌∙◌}
use Rattle.items.proofs.is_white.Reads as is-white
use Rattle.items.proofs.next_item.Reads as next-item

pub is-white-one : (κs : _) (a : _) (r r' : _) (s s' : _) → is-white.Post κs a r s → is-white.Post κs a r' s' → r ≡ r'
is-white-one κs a r r' s s' p q = p ∙ sym q

pub next-item-one : (κs : _) (a : _) (r r' : _) (s s' : _) → next-item.Post κs a r s → next-item.Post κs a r' s' → r ≡ r'
next-item-one κs a r r' s s' p q = p ∙ sym q
