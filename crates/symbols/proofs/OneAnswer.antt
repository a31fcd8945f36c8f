-- Each public function has one possible answer for each input: two that its contract allows are equal. None changes
-- what it is lent.
use mathlib.Core.Path.{◌≡◌, sym, ◌∙◌}
use Rattle.symbols.proofs.class_of.Reads as class_of
use Rattle.symbols.proofs.begins.Reads as begins
use Rattle.symbols.proofs.beginning_of.Reads as beginning-of

pub class-of-one : (κs : _) (a : _) (r r' : _) (s s' : _) → class_of.Post κs a r s → class_of.Post κs a r' s' → r ≡ r'
class-of-one κs a r r' s s' p q = p ∙ sym q

pub begins-one : (κs : _) (a : _) (r r' : _) (s s' : _) → begins.Post κs a r s → begins.Post κs a r' s' → r ≡ r'
begins-one κs a r r' s s' p q = p ∙ sym q

pub beginning-of-one : (κs : _) (a : _) (r r' : _) (s s' : _) → beginning-of.Post κs a r s → beginning-of.Post κs a r' s' → r ≡ r'
beginning-of-one κs a r r' s s' p q = p ∙ sym q
