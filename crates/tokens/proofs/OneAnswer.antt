-- Each public function has one possible answer for each input: two that its contract allows are equal. None changes
-- what it is lent.
use mathlib.Core.Path.{◌≡◌, sym, ◌∙◌}
use Rattle.tokens.proofs.Found.{said-next}
use Rattle.tokens.proofs.next.next_token.Reads as next-token

pub next-token-one : (κs : _) (a : _) (r r' : _) (s s' : _) → next-token.Post κs a r s → next-token.Post κs a r' s' → r ≡ r'
next-token-one κs a r r' s s' p q = said-next r r' (p ∙ sym q)
