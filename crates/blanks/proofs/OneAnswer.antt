-- Each public function has one possible answer for each input: two that its contract allows are equal. None changes
-- what it is lent.
use mathlib.Core.Path.{◌≡◌, sym, ◌∙◌}
use Rattle.blanks.proofs.blanks_of.Reads as blanks-of
use Rattle.blanks.proofs.line_ending_of.Reads as line-ending-of
use Rattle.blanks.proofs.until_ending_of.Reads as until-ending-of

pub blanks-of-one : (κs : _) (a : _) (r r' : _) (s s' : _) → blanks-of.Post κs a r s → blanks-of.Post κs a r' s' → r ≡ r'
blanks-of-one κs a r r' s s' p q = p ∙ sym q

pub line-ending-of-one : (κs : _) (a : _) (r r' : _) (s s' : _) → line-ending-of.Post κs a r s → line-ending-of.Post κs a r' s' → r ≡ r'
line-ending-of-one κs a r r' s s' p q = p ∙ sym q

pub until-ending-of-one : (κs : _) (a : _) (r r' : _) (s s' : _) → until-ending-of.Post κs a r s → until-ending-of.Post κs a r' s' → r ≡ r'
until-ending-of-one κs a r r' s s' p q = p ∙ sym q
