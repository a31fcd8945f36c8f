-- The public function has one possible answer for each input: two that its contract allows are equal. It changes
-- nothing that it is lent.
use Prim.Native.Nat.{ℕ}
use mathlib.Core.Path.{◌≡◌, sym, ◌∙◌}
use Rattle.std.specs.Prelude.{Result, Ok, Err}
use Rattle.definitions.specs.declared.Fault.{Fault}
use Rattle.literals.specs.declared.Lit.{Lit}
use Rattle.literals.proofs.OneAnswer.{same-lit}
use Rattle.literal_read.specs.Said.{said_literal}
use Rattle.literal_read.proofs.read_literal.Reads as read-literal

-- an answer is known by what it says
pub said-literal : (r r' : Result (Lit × ℕ) Fault) → said_literal r ≡ said_literal r' → r ≡ r'
said-literal (Ok (l, n)) (Ok (l', n')) e = let p : l ≡ l' = same-lit l l' (cc) in cc
said-literal (Ok (l, n)) (Err k) e = cc
said-literal (Err k) (Ok (l', n')) e = cc
said-literal (Err k) (Err k') e = cc

pub read-literal-one : (κs : _) (a : _) (r r' : _) (s s' : _) → read-literal.Post κs a r s → read-literal.Post κs a r' s' → r ≡ r'
read-literal-one κs a r r' s s' p q = said-literal r r' (p ∙ sym q)
