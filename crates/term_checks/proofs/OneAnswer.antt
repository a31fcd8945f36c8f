-- Each public function has one possible answer for each input: two that its contract allows are equal. None changes
-- what it is lent.
use mathlib.Core.Path.{◌≡◌, sym, ◌∙◌}
use Rattle.term_checks.proofs.indexed_of.Reads as Indexed-of
use Rattle.term_checks.proofs.add_size.Reads as add-size
use Rattle.term_checks.proofs.sizes_of.Reads as sizes-of

pub indexed-of-one : (κs : _) (a : _) (r r' : _) (s s' : _) → Indexed-of.Post κs a r s → Indexed-of.Post κs a r' s' → r ≡ r'
indexed-of-one κs a r r' s s' p q = p ∙ sym q

pub add-size-one : (κs : _) (a : _) (r r' : _) (s s' : _) → add-size.Post κs a r s → add-size.Post κs a r' s' → r ≡ r'
add-size-one κs a r r' s s' p q = p ∙ sym q

pub sizes-of-one : (κs : _) (a : _) (r r' : _) (s s' : _) → sizes-of.Post κs a r s → sizes-of.Post κs a r' s' → r ≡ r'
sizes-of-one κs a r r' s s' p q = p ∙ sym q
