-- Laws of `leading`, the digits at the front of a text: each is a digit, their number is small, and where they end.
use mathlib.Core.Path.{◌≡◌, refl, ap, ◌∙◌}
use mathlib.Core.Bool.{true}
use mathlib.Core.List.{List, [], ◌∷◌}
use Prim.Native.Nat.{ℕ, zero, suc, ◌+◌, ◌-◌, ◌*◌, ◌/◌, ◌%◌, ◌^◌, ◌≤◌, ◌<◌}
use native.Mathlib.Nat.{mul_assoc, mul-le-mul_right, pow-succ'}
use native.Mathlib.Decide.{dec_lt}
use native.Mathlib.Omega.{arith}
use borrow.Author.Tests.{le-leb, leb-true}
use lib.Dec.{leb}
use lib.ListN.{length, take, get_or}
use Rattle.definitions.specs.Bytes.{is_digit}
use Rattle.definitions.specs.Number.{leading, value_on}
use Rattle.definitions.proofs.Truths.{both}
use Rattle.definitions.proofs.Numbers.{leading-digit, leading_low, leading-high}
use Rattle.plain_parts.specs.Lanes.{all_bytes}

-- the first byte of a text is a digit, or no digit leads it
data Led (b : ℕ) (s : List ℕ) : Type 0 where
  digit : 48 ≤ b → b ≤ 57 → leading (b ∷ s) ≡ b ∷ leading s → Led b s
  ended : leading (b ∷ s) ≡ [] → Led b s

led : (b : ℕ) (s : List ℕ) → Led b s
led b s = by (dec_lt b 48) (dec_lt 57 b)
  where
    by : Dec (b < 48) → Dec (57 < b) → Led b s
    by (yes l) m = ended (leading_low b s l)
    by (no l) (yes m) = ended (leading-high b s m)
    by (no l) (no m) = digit (omega arith) (omega arith) (leading-digit b s (omega arith) (omega arith))

pub leading_at : (s : List ℕ) (i : ℕ) → i < length (leading s) → (48 ≤ get_or s i 0) × (get_or s i 0 ≤ 57)
unfolding leading
leading_at [] i h = absurd (omega arith)
leading_at (b ∷ s) i h = by (leading_at s) (led b s) i h
  where
    by : ((i : ℕ) → i < length (leading s) → (48 ≤ get_or s i 0) × (get_or s i 0 ≤ 57))
        → Led b s → (i : ℕ) → i < length (leading (b ∷ s)) → (48 ≤ get_or (b ∷ s) i 0) × (get_or (b ∷ s) i 0 ≤ 57)
    by rest (digit l m e) zero h = (l, m)
    by rest (digit l m e) (suc i) h = rest i (omega (arith, ap length e))
    by rest (ended e) i h = absurd (omega (arith, ap length e))

pub leading-taken : (s : List ℕ) → take (length (leading s)) s ≡ leading s
unfolding leading
leading-taken [] = refl
leading-taken (b ∷ s) = by (leading-taken s) (led b s)
  where
    by : take (length (leading s)) s ≡ leading s → Led b s → take (length (leading (b ∷ s))) (b ∷ s) ≡ leading (b ∷ s)
    by rest (digit l m e) = rw (e, rest)
    by rest (ended e) = rw e

pub digit-is : (b : ℕ) → 48 ≤ b → b ≤ 57 → is_digit b ≡ true
digit-is b l m = rw (le-leb 48 b l) (le-leb b 57 m)

pub leading-digits : (s : List ℕ) → all_bytes is_digit (leading s) ≡ true
unfolding leading all_bytes
leading-digits [] = refl
leading-digits (b ∷ s) = by (leading-digits s) (led b s)
  where
    by : all_bytes is_digit (leading s) ≡ true → Led b s → all_bytes is_digit (leading (b ∷ s)) ≡ true
    by rest (digit l m e) = rw (e, digit-is b l m) rest
    by rest (ended e) = rw e

-- n digits after the value a are below (a + 1) times 10 to the n
pub leading-small : (a : ℕ) (s : List ℕ) → value_on a (leading s) < (a + 1) * 10 ^ length (leading s)
unfolding leading value_on
leading-small a [] = omega arith
leading-small a (b ∷ s) = by (leading-small (a * 10 + (b - 48)) s) (led b s)
  where
    by : value_on (a * 10 + (b - 48)) (leading s) < (a * 10 + (b - 48) + 1) * 10 ^ length (leading s)
        → Led b s → value_on a (leading (b ∷ s)) < (a + 1) * 10 ^ length (leading (b ∷ s))
    by rest (digit l m e) =
        let n : a * 10 + (b - 48) + 1 ≤ (a + 1) * 10 = omega arith in
        let k = length (leading s) in
        rw e (omega (arith, rest, mul-le-mul_right (10 ^ k) n, ap (λ (x : ℕ). (a + 1) * x) (pow-succ' 10 k), mul_assoc (a + 1) 10 (10 ^ k)))
    by rest (ended e) = rw e (omega arith)

-- digits up to a byte without the bit 4, which digits have, are all that lead the text
no_digit : (b : ℕ) (s : List ℕ) → b / 16 % 2 ≡ 0 → leading (b ∷ s) ≡ []
no_digit b s e = by (led b s)
  where
    by : Led b s → leading (b ∷ s) ≡ []
    by (digit l m q) = absurd (omega arith)
    by (ended q) = q

pub leading-ended : (n : ℕ) (s : List ℕ) → n < length s → all_bytes is_digit (take n s) ≡ true → get_or s n 0 / 16 % 2 ≡ 0
    → leading s ≡ take n s
unfolding all_bytes
leading-ended n [] h d e = absurd (omega arith)
leading-ended zero (b ∷ s) h d e = no_digit b s e
leading-ended (suc n) (b ∷ s) h d e =
    let p = both (is_digit b) (all_bytes is_digit (take n s)) d in
    let q = both (leb 48 b) (leb b 57) p.0 in
    leading-digit b s (leb-true 48 b q.0) (leb-true b 57 q.1) ∙ rw (leading-ended n s (omega arith) p.1 e)
