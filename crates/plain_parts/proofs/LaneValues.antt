-- Laws of `lane_value`: the number whose digits stand in the lanes of a word.
use mathlib.Core.Path.{◌≡◌, refl, sym, ap, ap₂, ◌∙◌}
use Prim.Native.Nat.{ℕ, ◌+◌, ◌-◌, ◌*◌, ◌/◌, ◌%◌, ◌^◌, ◌≤◌, ◌<◌}
use native.Mathlib.Nat.{le_trans, le_of_eq, zero-add, add-sub_cancel_left, le-add_right, lt_of_lt_of_le, mod-lt, div-div-eq-div-mul}
use native.Mathlib.Omega.{arith}
use lib.Bits.{bit_and, and_block, and_mask}
use lib.Pow.{pow_pos, pow_mono, ones_lt, split, mod-mod-pow}
use Rattle.definitions.specs.Number.{value_on}
use Rattle.plain_parts.specs.Lanes.{lanes, lane_value}
use Rattle.plain_parts.proofs.LaneLaws.{on_lanes, joined, joined-lanes}

-- eight digits, the first highest
abbrev pub digits : ℕ → ℕ → ℕ → ℕ → ℕ → ℕ → ℕ → ℕ → ℕ
digits a b c d e f g h = ((((((a * 10 + b) * 10 + c) * 10 + d) * 10 + e) * 10 + f) * 10 + g) * 10 + h

pub lane-digits : (y : ℕ) → lane_value y ≡ on_lanes digits y
unfolding lanes value_on
lane-digits y = simp (add-sub_cancel_left, zero-add)

joined-bound : (a b c d e f g h : ℕ) → joined a b c d e f g h ≤ 2 ^ 56 * digits a b c d e f g h
joined-bound a b c d e f g h = omega arith

pub lane-zero : lane_value 0 ≡ 0
unfolding lanes value_on
lane-zero = refl

-- a number that is not 0 has a lane that is not
pub lane-positive : (y : ℕ) → y < 2 ^ 64 → 0 < y → 0 < lane_value y
lane-positive y h p =
    let m : y ≤ 2 ^ 56 * lane_value y = rw lane-digits (le_trans (le_of_eq (joined-lanes y h)) (joined-bound _ _ _ _ _ _ _ _)) in
    omega arith

-- ---- fields of k + k bits, of which a mask keeps the lower halves

-- the mask's lowest field keeps the k low bits, and the rest of the mask meets the rest of the number
low_field : (k y m : ℕ) → bit_and y (m * 2 ^ (k + k) + (2 ^ k - 1)) ≡ bit_and (y / 2 ^ (k + k)) m * 2 ^ (k + k) + y % 2 ^ k
low_field k y m =
    ap (λ (n : ℕ). bit_and n (m * 2 ^ (k + k) + (2 ^ k - 1))) (sym (split y (k + k)))
    ∙ and_block (k + k) (y / 2 ^ (k + k)) m (y % 2 ^ (k + k)) (2 ^ k - 1) (mod-lt y (pow_pos (k + k)))
    (lt_of_lt_of_le (ones_lt k) (pow_mono (le-add_right k k)))
    ∙ ap (λ (n : ℕ). bit_and (y / 2 ^ (k + k)) m * 2 ^ (k + k) + n) (and_mask (y % 2 ^ (k + k)) k ∙ mod-mod-pow y k k)

abbrev pub lower_bytes : ℕ
lower_bytes = 0x00ff_00ff_00ff_00ff

abbrev pub lower_pairs : ℕ
lower_pairs = 0x0000_ffff_0000_ffff

abbrev pub lower_half : ℕ
lower_half = 0xffff_ffff

-- every other lane
lower-bytes : (y : ℕ) → bit_and y lower_bytes
    ≡ ((y / 65536 / 65536 / 65536 % 256 * 65536 + y / 65536 / 65536 % 256) * 65536 + y / 65536 % 256) * 65536 + y % 256
lower-bytes y =
    low_field 8 y 0x00ff_00ff_00ff
    ∙ ap (λ (n : ℕ). n * 65536 + y % 256)
    (low_field 8 (y / 65536) 0x00ff_00ff
    ∙ ap (λ (n : ℕ). n * 65536 + y / 65536 % 256)
    (low_field 8 (y / 65536 / 65536) 0x00ff
    ∙ ap (λ (n : ℕ). n * 65536 + y / 65536 / 65536 % 256) (and_mask (y / 65536 / 65536 / 65536) 8)))

lower-pairs : (y : ℕ) → bit_and y lower_pairs ≡ y / 4294967296 % 65536 * 4294967296 + y % 65536
lower-pairs y = low_field 16 y 0xffff ∙ ap (λ (n : ℕ). n * 4294967296 + y % 65536) (and_mask (y / 4294967296) 16)

-- ---- digits made pairs, pairs made fours, fours made the whole

-- what the code computes
abbrev pub pairs_of : ℕ → ℕ
pairs_of y = bit_and y lower_bytes * 10 + bit_and (y / 256) lower_bytes

abbrev pub fours_of : ℕ → ℕ
fours_of p = bit_and p lower_pairs * 100 + bit_and (p / 65536) lower_pairs

abbrev pub whole_of : ℕ → ℕ
whole_of q = bit_and q lower_half * 10000 + q / 4294967296

two_lanes : (y : ℕ) → y / 65536 ≡ y / 256 / 256
two_lanes y = sym (div-div-eq-div-mul y 256 256)

-- four pairs of digits, the first lowest, in 16 bits each
abbrev pairs : ℕ → ℕ → ℕ → ℕ → ℕ → ℕ → ℕ → ℕ → ℕ
pairs a b c d e f g h = (((g * 10 + h) * 65536 + (e * 10 + f)) * 65536 + (c * 10 + d)) * 65536 + (a * 10 + b)

weave : (a b c d e f g h : ℕ)
    → (((g * 65536 + e) * 65536 + c) * 65536 + a) * 10 + (((h * 65536 + f) * 65536 + d) * 65536 + b) ≡ pairs a b c d e f g h
weave a b c d e f g h = omega arith

pairs-are : (y : ℕ) → pairs_of y ≡ on_lanes pairs y
pairs-are y = ap₂ (λ (m n : ℕ). m * 10 + n) (lower-bytes y) (lower-bytes (y / 256)) ∙ simp two_lanes (weave _ _ _ _ _ _ _ _)

-- the first and the third of four pairs
picked : (a b c d : ℕ) → a < 65536 → b < 65536 → c < 65536
    → bit_and (((d * 65536 + c) * 65536 + b) * 65536 + a) lower_pairs ≡ c * 4294967296 + a
picked a b c d ha hb hc =
    let p = ((d * 65536 + c) * 65536 + b) * 65536 + a in
    let low : p % 65536 ≡ a = omega arith in
    let high : p / 4294967296 ≡ d * 65536 + c = omega arith in
    lower-pairs p ∙ rw (low, high) (omega arith)

fours-are : (a b c d : ℕ) → a < 65536 → b < 65536 → c < 65536 → d < 65536
    → fours_of (((d * 65536 + c) * 65536 + b) * 65536 + a) ≡ (c * 100 + d) * 4294967296 + (a * 100 + b)
fours-are a b c d ha hb hc hd =
    let q : (((d * 65536 + c) * 65536 + b) * 65536 + a) / 65536 ≡ ((0 * 65536 + d) * 65536 + c) * 65536 + b = omega arith in
    rw (picked a b c d ha hb hc, q, picked b c d 0 hb hc hd) (omega arith)

whole_is : (a b : ℕ) → a < 4294967296 → whole_of (b * 4294967296 + a) ≡ a * 10000 + b
whole_is a b h = omega (arith, and_mask (b * 4294967296 + a) 32)

-- lanes of at most 255 make pairs below 2 ^ 16, and these make fours below 2 ^ 32
whole-digits : (a b c d e f g h : ℕ) → a < 256 → b < 256 → c < 256 → d < 256 → e < 256 → f < 256 → g < 256 → h < 256
    → whole_of (fours_of (pairs a b c d e f g h)) ≡ digits a b c d e f g h
whole-digits a b c d e f g h ha hb hc hd he hf hg hh =
    rw (fours-are (a * 10 + b) (c * 10 + d) (e * 10 + f) (g * 10 + h) (omega arith) (omega arith) (omega arith) (omega arith))
    (whole_is ((a * 10 + b) * 100 + (c * 10 + d)) ((e * 10 + f) * 100 + (g * 10 + h)) (omega arith) ∙ omega arith)

byte : (y : ℕ) → y % 256 < 256
byte y = omega arith

pub value-is : (y : ℕ) → whole_of (fours_of (pairs_of y)) ≡ lane_value y
value-is y =
    rw (pairs-are y, lane-digits y) (whole-digits _ _ _ _ _ _ _ _ (byte _) (byte _) (byte _) (byte _) (byte _) (byte _) (byte _) (byte _))
