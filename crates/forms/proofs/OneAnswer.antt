-- Each public function has one possible answer for each input: two that its contract allows are equal. None changes
-- what it is lent.
use mathlib.Core.Path.{◌≡◌, sym, ◌∙◌}
use Rattle.forms.proofs.form_of.Reads as form_of

pub form-of-one : (κs : _) (a : _) (r r' : _) (s s' : _) → form_of.Post κs a r s → form_of.Post κs a r' s' → r ≡ r'
form-of-one κs a r r' s s' p q = p ∙ sym q
