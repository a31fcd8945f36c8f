-- Laws of the four digits of a number below 10,000: how they are found two at once, the bytes of the number that holds
-- them, the text that four stores leave, and the digits of a greater number, four by four.
use mathlib.Core.Path.{◌≡◌, sym, ap, ap₂, ◌∙◌}
use mathlib.Core.List.{List, [], ◌∷◌, ◌++◌, append_assoc}
use Prim.Native.Nat.{ℕ, suc, ◌+◌, ◌-◌, ◌*◌, ◌/◌, ◌%◌, ◌≤◌, ◌<◌}
use native.Mathlib.Omega.{arith}
use native.Mathlib.Numerals.{add-one}
use native.Mathlib.Nat.{add-zero}
use lib.Pow.{split, mod-mod-pow}
use lib.Bits.{bit_and, and_block, and_mask}
use lib.ListN.{length, take, drop, set, length-append}
use lib.Seq.{set-set, sets, sets-eq}
use Rattle.definitions.specs.Number.{decimal}
use Rattle.definitions.proofs.Numbers.{decimal-big}
use Rattle.lengths.specs.Places.{four_digits, places_of}
use Rattle.lengths.specs.declared.Places.{Places}
use Rattle.lengths.proofs.DigitPlaces.{few-is}
use Rattle.outputs.specs.Print.{four_bytes}

-- ---- the digits, found two at once

-- the tens of a number below 100, with no division
tenth : (x : ℕ) → x < 100 → x * 103 / 1024 ≡ x / 10
tenth x h = omega arith

-- the mask keeps the four low bits of either half
two-nibbles : (q a b : ℕ) → q / 65536 ≡ a → q % 16 ≡ b → a < 16 → bit_and q 983055 ≡ b + 65536 * a
two-nibbles q a b up down h =
    ap (λ (n : ℕ). bit_and n 983055) (sym (split q 16))
    ∙ and_block 16 (q / 65536) 15 (q % 65536) 15 (omega arith) (omega arith)
    ∙ omega (arith, and_mask (q / 65536) 4, and_mask (q % 65536) 4, mod-mod-pow q 12 4)

-- the tens of two numbers below 100, 16 bits apart
two-tens : (high low : ℕ) → high < 100 → low < 100 → bit_and ((high + 65536 * low) * 103 / 1024) 983055 ≡ high / 10 + 65536 * (low / 10)
two-tens high low h l =
    let e : (high + 65536 * low) * 103 / 1024 ≡ 6592 * low + high / 10 = omega (arith, tenth high h) in
    rw e
    (two-nibbles (6592 * low + high / 10) (low / 10) (high / 10) (omega (arith, tenth low l)) (omega arith) (omega arith))

-- the tens of the two halves of m
pub tens-is : (m : ℕ) → m < 10_000
    → bit_and ((m / 100 + 65536 * (m - 100 * (m / 100))) * 103 / 1024) 983055 ≡ m / 1000 + 65536 * (m / 10 % 10)
tens-is m h =
    let up : m / 100 / 10 ≡ m / 1000 = omega arith in
    let down : (m - 100 * (m / 100)) / 10 ≡ m / 10 % 10 = omega arith in
    two-tens (m / 100) (m - 100 * (m / 100)) (omega arith) (omega arith) ∙ rw (up, down)

-- and the ones, which are left of them
pub ones-left : (m : ℕ) → m < 10_000
    → m / 100 + 65536 * (m - 100 * (m / 100)) ≡ 10 * (m / 1000 + 65536 * (m / 10 % 10)) + (m / 100 % 10 + 65536 * (m % 10))
ones-left m h =
    let up : m / 100 ≡ 10 * (m / 1000) + m / 100 % 10 = omega arith in
    let down : m - 100 * (m / 100) ≡ 10 * (m / 10 % 10) + m % 10 = omega arith in
    ap₂ (λ (a b : ℕ). a + 65536 * b) up down ∙ omega arith

-- ---- the bytes of the number that holds them

bytes : (a b c d : ℕ) → a < 256 → b < 256 → c < 256 → d < 256 → (w : ℕ) → w ≡ a + 256 * (b + 256 * (c + 256 * d))
    → (bit_and w 255 ≡ a) × (bit_and (w / 256) 255 ≡ b) × (bit_and (w / 65536) 255 ≡ c) × (w / 16777216 ≡ d)
bytes a b c d ha hb hc hd w e =
    (and_mask w 8 ∙ omega arith, and_mask (w / 256) 8 ∙ omega arith, and_mask (w / 65536) 8 ∙ omega arith, omega arith)

module _ (o : List ℕ) (at : ℕ) where
  -- a digit and, counted from its place, three more
  abbrev stores : ℕ → ℕ → ℕ → ℕ → ℕ → ℕ → ℕ → List ℕ
  stores h t u a b c d = set (set (set (set o at a) (at + h) b) (at + t) c) (at + u) d

  -- what the code stores: the bytes of w
  abbrev pub stored : ℕ → ℕ → ℕ → ℕ → List ℕ
  stored h t u w = stores h t u (bit_and w 255) (bit_and (w / 256) 255) (bit_and (w / 65536) 255) (w / 16777216)

  stored_is : (m : ℕ) → m < 10_000 → (w : ℕ) → w ≡ four_bytes m → (h t u : ℕ)
      → stored h t u w ≡ stores h t u (48 + m / 1000) (48 + m / 100 % 10) (48 + m / 10 % 10) (48 + m % 10)
  stored_is m l w e h t u =
      let r = bytes (48 + m / 1000) (48 + m / 100 % 10) (48 + m / 10 % 10) (48 + m % 10)
      (omega arith) (omega arith) (omega arith) (omega arith) w e in
      rw (r.0, r.1, r.2, r.3)

  second : at + 2 ≡ suc (suc at)
  second = omega arith

  third : at + 3 ≡ suc (suc (suc at))
  third = omega arith

  -- a digit written where one stands already takes its place
  module _ (a b c d : ℕ) where
    one : stores 0 0 0 a b c d ≡ sets o at (d ∷ [])
    one = rw add-zero (simp set-set)

    two : stores 0 0 1 a b c d ≡ sets o at (c ∷ d ∷ [])
    two = rw (add-zero, add-one) (simp set-set)

    three : stores 0 1 2 a b c d ≡ sets o at (b ∷ c ∷ d ∷ [])
    three = rw (add-zero, add-one, second) (simp set-set)

    all : stores 1 2 3 a b c d ≡ sets o at (a ∷ b ∷ c ∷ d ∷ [])
    all = rw (add-one, second, third)

  sets-is : (ds : List ℕ) → at + length ds ≤ length o → sets o at ds ≡ take at o ++ (ds ++ drop (at + length ds) o)
  sets-is ds h = sets-eq ds o at h ∙ append_assoc (take at o) ds _

  pub stored-four : (m : ℕ) → m < 10_000 → (w : ℕ) → w ≡ four_bytes m → at + 4 ≤ length o
      → stored 1 2 3 w ≡ take at o ++ (four_digits m ++ drop (at + 4) o)
  stored-four m l w e h = stored_is m l w e 1 2 3 ∙ all _ _ _ _ ∙ sets-is (four_digits m) h

-- ---- as many digits as m has

module _ (m : ℕ) (l : m < 10_000) (p : Places) (q : p ≡ places_of m) where
  pub stored-few : (o : List ℕ) (at w : ℕ) → w ≡ four_bytes m → at + length (decimal m) ≤ length o
      → stored o at p.hundreds p.tens p.ones w ≡ take at o ++ (decimal m ++ drop (at + length (decimal m)) o)
  stored-few o at w e h =
      stored_is o at m l w e _ _ _
      ∙ rw q
      (few-is (λ h t u ds. stores o at h t u (48 + m / 1000) (48 + m / 100 % 10) (48 + m / 10 % 10) (48 + m % 10) ≡ sets o at ds) m l
      (one o at _ _ _ _) (two o at _ _ _ _) (three o at _ _ _ _) (all o at _ _ _ _))
      ∙ sets-is o at (decimal m) h

-- ---- more than four digits

pub decimal-fours : (x : ℕ) → 10_000 ≤ x → decimal x ≡ decimal (x / 10_000) ++ four_digits (x % 10_000)
decimal-fours x h =
    let e : x / 10 / 10 / 10 / 10 ≡ x / 10_000 = omega arith in
    let a : x / 10 / 10 / 10 % 10 ≡ x % 10_000 / 1000 = omega arith in
    let b : x / 10 / 10 % 10 ≡ x % 10_000 / 100 % 10 = omega arith in
    let c : x / 10 % 10 ≡ x % 10_000 / 10 % 10 = omega arith in
    let d : x % 10 ≡ x % 10_000 % 10 = omega arith in
    let tens = decimal-big (x / 10) (omega arith) in
    let hundreds = decimal-big (x / 10 / 10) (omega arith) in
    let thousands = decimal-big (x / 10 / 10 / 10) (omega arith) in
    rw (decimal-big x (omega arith), tens, hundreds, thousands, e, a, b, c, d) (simp append_assoc)

pub decimal-length-fours : (x : ℕ) → 10_000 ≤ x → length (decimal x) ≡ length (decimal (x / 10_000)) + 4
decimal-length-fours x h = rw (decimal-fours x h, length-append)
