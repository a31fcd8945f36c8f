-- Each public function has one possible answer for each input: two that its contract allows are equal.
use mathlib.Core.Path.{◌≡◌, sym, ◌∙◌}
use Rattle.held.proofs.new.Reads as new
use Rattle.held.proofs.at.Reads as at
use Rattle.held.proofs.moved.Reads as moved

pub new-one : (κs : _) (a : _) (r r' : _) (s s' : _) → new.Post κs a r s → new.Post κs a r' s' → r ≡ r'
new-one κs a r r' s s' p q = p ∙ sym q

pub at_one : (κs : _) (a : _) (r r' : _) (s s' : _) → at.Post κs a r s → at.Post κs a r' s' → r ≡ r'
at_one κs a r r' s s' p q = p ∙ sym q

pub moved-one : (κs : _) (a : _) (r r' : _) (s s' : _) → moved.Post κs a r s → moved.Post κs a r' s' → r ≡ r'
moved-one κs a r r' s s' p q = p ∙ sym q
