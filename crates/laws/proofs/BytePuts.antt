-- A byte that is put before a text, and one behind it.
use mathlib.Core.Path.{◌≡◌}
use mathlib.Core.List.{List, [], ◌∷◌, ◌++◌}
use Prim.Native.Nat.{ℕ, ◌+◌, ◌<◌}
use native.Mathlib.Omega.{arith}
use lib.ListN.{length, set}
use Rattle.laws.proofs.Puts.{Puts, puts-length, puts_then, puts-byte}

-- a byte, and a text behind it
pub byte-then : (b at q : ℕ) (o : List ℕ) → at < length o → q ≡ at + 1 → {a : List ℕ} {r : ℕ} {o₂ : List ℕ}
    → Puts a q (set o at b) r o₂ → Puts (b ∷ a) at o r o₂
byte-then b at q o h e f = puts_then (puts-byte b at q o h e) (omega arith) f

-- a text, and a byte behind it
pub then-byte : (b q : ℕ) {a : List ℕ} {at : ℕ} {o : List ℕ} {p : ℕ} {o₁ : List ℕ} → at + length a < length o → q ≡ p + 1
    → Puts a at o p o₁ → Puts (a ++ (b ∷ [])) at o q (set o₁ p b)
then-byte b q {a} {at} {o} {p} {o₁} h e f =
    puts_then f (omega arith) (puts-byte b p q o₁ (omega (arith, f.place, puts-length f (omega arith))) e)
