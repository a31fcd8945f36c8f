-- Each public function has one possible answer for each input: two that its contract allows are equal. None changes
-- what it is lent.
use mathlib.Core.Path.{◌≡◌, refl, sym, ◌∙◌}
use Prim.Native.Nat.{ℕ}
use Rattle.numbers.specs.Read.{said}
use Rattle.std.specs.Prelude.{Option, Some, None, ℤ}
use Rattle.numbers.proofs.read_run.Reads as read-run
use Rattle.numbers.proofs.read_number.Reads as read_number
use Rattle.numbers.proofs.magnitude.Reads as magnitude

pub said-one : (r r' : Option (ℤ × ℕ)) → said r ≡ said r' → r ≡ r'
said-one (Some (z, n)) (Some (y, m)) e = cc
said-one (Some (z, n)) None e = cc
said-one None (Some (y, m)) e = cc
said-one None None e = refl

pub read-run-one : (κs : _) (a : _) (r r' : _) (s s' : _) → read-run.Post κs a r s → read-run.Post κs a r' s' → r ≡ r'
read-run-one κs a r r' s s' p q = p ∙ sym q

pub read-number-one : (κs : _) (a : _) (r r' : _) (s s' : _) → read_number.Post κs a r s → read_number.Post κs a r' s' → r ≡ r'
read-number-one κs a r r' s s' p q = said-one r r' (p ∙ sym q)

pub magnitude-one : (κs : _) (a : _) (r r' : _) (s s' : _) → magnitude.Post κs a r s → magnitude.Post κs a r' s' → r ≡ r'
magnitude-one κs a r r' s s' p q = p ∙ sym q
