-- Laws of the places of the digits of a number below 10,000: as the code finds them, and in the text of one to four
-- digits.
use mathlib.Core.Path.{◌≡◌, refl, ◌∙◌}
use mathlib.Core.Bool.{Bool, true, false}
use mathlib.Core.List.{List, [], ◌∷◌}
use Prim.Native.Nat.{ℕ, ◌+◌, ◌/◌, ◌%◌, ◌≤◌, ◌<◌}
use native.Mathlib.Omega.{arith}
use native.Mathlib.Decide.{dec_lt}
use lib.Dec.{leb}
use lib.ListN.{length}
use mir.Val.{bool_byte}
use borrow.Author.Tests.{le-leb, lt-leb}
use Rattle.definitions.specs.Number.{decimal}
use Rattle.definitions.proofs.Numbers.{decimal-small, decimal-big}
use Rattle.lengths.specs.Places.{four_digits, behind, places_of}
use Rattle.lengths.specs.declared.Places.{Places}

-- ---- where they stand

-- a test added to a place
first-behind : (b : Bool) → bool_byte b ≡ behind 0 b
first-behind true = refl
first-behind false = refl

next-behind : (place : ℕ) (b : Bool) → place + bool_byte b ≡ behind place b
next-behind place true = refl
next-behind place false = omega arith

pub at_most_one : (b : Bool) → bool_byte b ≤ 1
at_most_one true = omega arith
at_most_one false = omega arith

-- the sums of the code
pub places-found : (m : ℕ) → record {
  hundreds = bool_byte (leb 1000 m);
  tens = bool_byte (leb 1000 m) + bool_byte (leb 100 m);
  ones = bool_byte (leb 1000 m) + bool_byte (leb 100 m) + bool_byte (leb 10 m);
} ≡ places_of m
places-found m =
    let hundreds = behind 0 (leb 1000 m) in
    rw (first-behind (leb 1000 m), next-behind hundreds (leb 100 m), next-behind (behind hundreds (leb 100 m)) (leb 10 m))

-- ---- as many digits as m has

two_digits : (m : ℕ) → 10 ≤ m → m < 100 → decimal m ≡ (48 + m / 10) ∷ (48 + m % 10) ∷ []
two_digits m h l = decimal-big m h ∙ rw (decimal-small (m / 10) (omega arith))

three-digits : (m : ℕ) → 100 ≤ m → m < 1000 → decimal m ≡ (48 + m / 100) ∷ (48 + m / 10 % 10) ∷ (48 + m % 10) ∷ []
three-digits m h l =
    let e : m / 10 / 10 ≡ m / 100 = omega arith in
    decimal-big m (omega arith) ∙ rw (two_digits (m / 10) (omega arith) (omega arith), e)

four-digits : (m : ℕ) → 1000 ≤ m → m < 10_000 → decimal m ≡ four_digits m
four-digits m h l =
    let e : m / 10 / 10 ≡ m / 100 = omega arith in
    let f : m / 10 / 100 ≡ m / 1000 = omega arith in
    decimal-big m (omega arith) ∙ rw (three-digits (m / 10) (omega arith) (omega arith), e, f)

-- the four cases: a number of one to four digits, where they stand, and its text
pub few-is {ℓ} : (P : ℕ → ℕ → ℕ → List ℕ → Type ℓ) (m : ℕ) → m < 10_000
    → P 0 0 0 ((48 + m % 10) ∷ [])
    → P 0 0 1 ((48 + m / 10 % 10) ∷ (48 + m % 10) ∷ [])
    → P 0 1 2 ((48 + m / 100 % 10) ∷ (48 + m / 10 % 10) ∷ (48 + m % 10) ∷ [])
    → P 1 2 3 (four_digits m)
    → P (places_of m).hundreds (places_of m).tens (places_of m).ones (decimal m)
few-is P m l p₁ p₂ p₃ p₄ = by (dec_lt m 10) (dec_lt m 100) (dec_lt m 1000)
  where
    by : Dec (m < 10) → Dec (m < 100) → Dec (m < 1000) → P (places_of m).hundreds (places_of m).tens (places_of m).ones (decimal m)
    by (yes a) b c =
        let e : m % 10 ≡ m = omega arith in
        rw (lt-leb 1000 m (omega arith), lt-leb 100 m (omega arith), lt-leb 10 m a, decimal-small m a) (rw e at p₁)
    by (no a) (yes b) c =
        let e : m / 10 % 10 ≡ m / 10 = omega arith in
        rw (lt-leb 1000 m (omega arith), lt-leb 100 m b, le-leb 10 m (omega arith), two_digits m (omega arith) b) (rw e at p₂)
    by (no a) (no b) (yes c) =
        let e : m / 100 % 10 ≡ m / 100 = omega arith in
        rw (lt-leb 1000 m c, le-leb 100 m (omega arith), le-leb 10 m (omega arith), three-digits m (omega arith) c) (rw e at p₃)
    by (no a) (no b) (no c) =
        rw (le-leb 1000 m (omega arith), le-leb 100 m (omega arith), le-leb 10 m (omega arith), four-digits m (omega arith) l) p₄

module _ (m : ℕ) (l : m < 10_000) (p : Places) (q : p ≡ places_of m) where
  -- the places go up, and the last one is that of the last digit
  pub places-are : (p.hundreds ≤ p.tens) × (p.tens ≤ p.ones) × (p.ones + 1 ≡ length (decimal m))
  places-are =
      rw q
      (few-is (λ h t u ds. (h ≤ t) × (t ≤ u) × (u + 1 ≡ length ds)) m l (omega arith) (omega arith) (omega arith) (omega arith))

  pub last-place : p.ones + 1 ≡ length (decimal m)
  last-place = omega (arith, places-are)
