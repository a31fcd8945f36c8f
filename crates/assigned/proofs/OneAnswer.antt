-- Each public function has one possible answer for each input: two that its contract allows are equal. None changes
-- what it is lent.
use mathlib.Core.Path.{◌≡◌, sym, ◌∙◌}
use Rattle.assigned.proofs.covered.Reads as covered
use Rattle.assigned.proofs.ones_of.Reads as ones-of

pub covered_one : (κs : _) (a : _) (r r' : _) (s s' : _) → covered.Post κs a r s → covered.Post κs a r' s' → r ≡ r'
covered_one κs a r r' s s' p q = p ∙ sym q

pub ones_of_one : (κs : _) (a : _) (r r' : _) (s s' : _) → ones-of.Post κs a r s → ones-of.Post κs a r' s' → r ≡ r'
ones_of_one κs a r r' s s' p q = p ∙ sym q
