-- Each public function has one possible answer for each input, and leaves one content in what it is lent: two that its
-- contract allows are equal. The block is not changed.
use mathlib.Core.Path.{◌≡◌, sym, ◌∙◌}
use Rattle.definitions.proofs.KnownAnswers.{length-known}
use Rattle.heard.proofs.hear.Reads as hear

pub hear-one : (κs : _) (a : _) (r r' : _) (s s' : _) → hear.Post κs a r s → hear.Post κs a r' s' → r ≡ r'
hear-one κs a r r' s s' p q = length-known r r' (p ∙ sym q)
