-- Each public function has one possible answer for each input: two that its contract allows are equal. None changes
-- what it is lent.
use mathlib.Core.Path.{◌≡◌, sym, ◌∙◌}
use Rattle.definitions.proofs.KnownAnswers.{counted-known}
use Rattle.counts.proofs.count_file.Reads as count-file
use Rattle.counts.proofs.fitted.Reads as fitted

pub count-file-one : (κs : _) (a : _) (r r' : _) (s s' : _) → count-file.Post κs a r s → count-file.Post κs a r' s' → r ≡ r'
count-file-one κs a r r' s s' p q = counted-known r r' (p ∙ sym q)

pub fitted-one : (κs : _) (a : _) (r r' : _) (s s' : _) → fitted.Post κs a r s → fitted.Post κs a r' s' → r ≡ r'
fitted-one κs a r r' s s' p q = counted-known r r' (p ∙ sym q)
