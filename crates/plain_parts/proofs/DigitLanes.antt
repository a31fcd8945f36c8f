-- Digits in the lanes of a word: the test of all lanes at once, and the digits that stand in a word of text.
use mathlib.Core.Path.{◌≡◌, refl, sym, ap, ap₂, subst, ◌∙◌}
use mathlib.Core.Bool.{Bool, true, false, ◌&&◌}
use mathlib.Core.List.{List, ◌∷◌, ◌++◌, map}
use Prim.Native.Nat.{ℕ, zero, suc, ◌+◌, ◌-◌, ◌*◌, ◌/◌, ◌%◌, ◌^◌, ◌≤◌, ◌<◌}
use native.Mathlib.Nat.{mod-lt, mul_assoc, suc-add}
use native.Mathlib.Decide.{dec_le}
use native.Mathlib.Omega.{arith}
use borrow.Author.Tests.{leb-true, le-leb, lt-leb, eq-eqb, ne_eqb}
use lib.Bits.{bit_and, bit_xor, and_block, and_high, and_zero_r, xor_shr, xor_mod, xor_add_and}
use lib.Dec.{leb, eqb, lit<}
use lib.ListN.{take, replicate}
use lib.Pow.{pow_pos, split}
use Rattle.definitions.specs.Bytes.{is_digit}
use Rattle.definitions.specs.Number.{value, value_on}
use Rattle.definitions.proofs.Truths.{both}
use Rattle.plain_parts.specs.Lanes.{lanes, lane_value, all_bytes, digit_lanes, InLanes, DigitsAre}
use Rattle.plain_parts.proofs.LaneLaws.{lane-pow, lanes-take, lanes-mod}

-- from 0 to 9
abbrev small : ℕ → Bool
small d = leb d 9

-- ---- the test of all lanes at once

-- the highest bit of n lanes
tops : ℕ → ℕ
tops zero = 0
tops (suc n) = tops n * 256 + 128

-- what takes ten, and no digit, to the highest bit, in n lanes
nines : ℕ → ℕ
nines zero = 0
nines (suc n) = nines n * 256 + 118

-- the highest bits of the lowest lane and of the others
tops-of : (y e : ℕ) → bit_and y (e * 256 + 128) ≡ bit_and (y / 256) e * 256 + y % 256 / 128 % 2 * 128
tops-of y e =
    ap (λ (x : ℕ). bit_and x (e * 256 + 128)) (sym (split y 8))
    ∙ and_block 8 (y / 256) e (y % 256) 128 (mod-lt y (pow_pos 8)) (lit< tt)
    ∙ ap (λ (x : ℕ). bit_and (y / 256) e * 256 + x) (and_high (y % 256) 1 7)

-- no lane has its highest bit: the lowest lane, and the others
no-tops : (n y : ℕ) → bit_and y (tops (suc n)) ≡ 0 → (y % 256 < 128) × (bit_and (y / 256) (tops n) ≡ 0)
unfolding tops
no-tops n y e = let p = tops-of y (tops n) in (omega arith, omega arith)

-- digits have none
digits-no-tops : (n y : ℕ) → all_bytes small (lanes n y) ≡ true → bit_and y (tops n) ≡ 0
unfolding tops lanes all_bytes
digits-no-tops zero y e = and_zero_r y
digits-no-tops (suc n) y e =
    let p = both (small (y % 256)) (all_bytes small (lanes n (y / 256))) e in
    let l : y % 256 ≤ 9 = leb-true (y % 256) 9 p.0 in
    omega (arith, tops-of y (tops n), digits-no-tops n (y / 256) p.1)

-- the lowest lane takes no carry to the others
low-lane : (n y : ℕ) → y % 256 < 128 → ((y + nines (suc n)) / 256 ≡ y / 256 + nines n) × ((y + nines (suc n)) % 256 ≡ y % 256 + 118)
unfolding nines
low-lane n y h = (omega arith, omega arith)

lane-tested : (x b : ℕ) → b < 128 → eqb (x * 256 + (b + 118) / 128 % 2 * 128) 0 ≡ small b && eqb x 0
lane-tested x b h = by (dec_le b 9) (dec_le x 0)
  where
    by : Dec (b ≤ 9) → Dec (x ≤ 0) → eqb (x * 256 + (b + 118) / 128 % 2 * 128) 0 ≡ small b && eqb x 0
    by (yes l) (yes z) = rw (le-leb b 9 l, eq-eqb x 0 (omega arith)) (eq-eqb (x * 256 + (b + 118) / 128 % 2 * 128) 0 (omega arith))
    by (yes l) (no z) = rw (le-leb b 9 l, ne_eqb x 0 (λ e. omega arith)) (ne_eqb (x * 256 + (b + 118) / 128 % 2 * 128) 0 (λ e. omega arith))
    by (no l) z = rw (lt-leb b 9 (omega arith)) (ne_eqb (x * 256 + (b + 118) / 128 % 2 * 128) 0 (λ e. omega arith))

-- where no lane has its highest bit, the sums have none exactly if all are digits
digits-tested : (n y : ℕ) → bit_and y (tops n) ≡ 0 → eqb (bit_and (y + nines n) (tops n)) 0 ≡ all_bytes small (lanes n y)
unfolding tops lanes all_bytes
digits-tested zero y e = eq-eqb (bit_and (y + nines zero) 0) 0 (and_zero_r (y + nines zero))
digits-tested (suc n) y e =
    let p = no-tops n y e in
    let q = low-lane n y p.0 in
    rw (tops-of (y + nines (suc n)) (tops n), q.0, q.1)
    (lane-tested (bit_and (y / 256 + nines n) (tops n)) (y % 256) p.0
    ∙ ap (λ (t : Bool). small (y % 256) && t) (digits-tested n (y / 256) p.1))

-- and the sums stay in the lanes
nines-fit : (n y : ℕ) → y < 2 ^ (8 * n) → bit_and y (tops n) ≡ 0 → y + nines n < 2 ^ (8 * n)
unfolding nines
nines-fit zero y h e = omega arith
nines-fit (suc n) y h e =
    let w = lane-pow n in
    let p = no-tops n y e in
    let l : y / 256 < 2 ^ (8 * n) = omega arith in
    omega (arith, nines-fit n (y / 256) l p.1)

-- ---- the eight lanes of a word, as the code tests them

-- without a highest bit, the second test tells
pub tested : (y : ℕ) → bit_and y 0x8080_8080_8080_8080 ≡ 0 → eqb (bit_and (y + 0x7676_7676_7676_7676) 0x8080_8080_8080_8080) 0 ≡ digit_lanes y
unfolding tops nines
tested y e = digits-tested 8 y e

-- a lane with its highest bit is no digit
pub untested : (y : ℕ) → (bit_and y 0x8080_8080_8080_8080 ≡ 0 → ⊥) → false ≡ digit_lanes y
unfolding tops
untested y h = by (digit_lanes y) (digits-no-tops 8 y)
  where
    by : (t : Bool) → (t ≡ true → bit_and y 0x8080_8080_8080_8080 ≡ 0) → false ≡ t
    by true f = absurd (h (f refl))
    by false f = refl

pub sums-fit : (y : ℕ) → y < 2 ^ 64 → bit_and y 0x8080_8080_8080_8080 ≡ 0 → y + 0x7676_7676_7676_7676 < 2 ^ 64
unfolding tops nines
sums-fit y h e = nines-fit 8 y h e

-- ---- a number shifted by m lanes

lanes-shifted : (m n y : ℕ) → lanes (m + n) (y * 2 ^ (8 * m)) ≡ replicate m 0 ++ lanes n y
unfolding lanes
lanes-shifted zero n y = let p : 0 + n ≡ n = omega arith in let e : y * 1 ≡ y = omega arith in ap₂ lanes p e
lanes-shifted (suc m) n y =
    let e : y * 2 ^ (8 * suc m) ≡ y * 2 ^ (8 * m) * 256 = ap (λ (x : ℕ). y * x) (lane-pow m) ∙ sym (mul_assoc y (2 ^ (8 * m)) 256) in
    rw (suc-add m n)
    (ap₂ (λ (b : ℕ) (s : List ℕ). b ∷ s) (omega arith) (ap (lanes (m + n)) (omega arith) ∙ lanes-shifted m n y))

-- ---- digits of text

-- `0` in n lanes
zeros : ℕ → ℕ
zeros zero = 0
zeros (suc n) = zeros n * 256 + 48

-- a byte that differs from `0` by no more than a digit is one
digit-byte : (b : ℕ) → bit_xor b 48 ≤ 9 → 48 + bit_xor b 48 ≡ b
digit-byte b h = omega (arith, xor_add_and b 48, and_high b 2 4)

abbrev text : List ℕ → List ℕ
text = map (λ (d : ℕ). 48 + d)

-- the lowest lane and the others, without their `0`s
xor-lane : (y k : ℕ) → bit_xor y (zeros (suc k)) % 256 ≡ bit_xor (y % 256) 48
unfolding zeros
xor-lane y k = xor_mod y (zeros (suc k)) 8 ∙ ap (bit_xor (y % 256)) (omega arith)

xor-lanes : (y k : ℕ) → bit_xor y (zeros (suc k)) / 256 ≡ bit_xor (y / 256) (zeros k)
unfolding zeros
xor-lanes y k = xor_shr y (zeros (suc k)) 8 ∙ ap (bit_xor (y / 256)) (omega arith)

-- the lowest n lanes that are digits once `0` is taken off, as text, are the bytes of the word
lanes-text : (n k y : ℕ) → n ≤ k → all_bytes small (lanes n (bit_xor y (zeros k))) ≡ true → text (lanes n (bit_xor y (zeros k))) ≡ lanes n y
unfolding lanes all_bytes
lanes-text zero k y h e = refl
lanes-text (suc n) zero y h e = absurd (omega arith)
lanes-text (suc n) (suc k) y h e =
    let z = zeros (suc k) in
    let p = xor-lane y k in
    let q = xor-lanes y k in
    let t = both (small (bit_xor y z % 256)) (all_bytes small (lanes n (bit_xor y z / 256))) e in
    let l : bit_xor (y % 256) 48 ≤ 9 = omega (arith, leb-true (bit_xor y z % 256) 9 t.0) in
    ap₂ (λ (b : ℕ) (s : List ℕ). b ∷ s) (ap (λ (x : ℕ). 48 + x) p ∙ digit-byte (y % 256) l)
    (ap (λ (x : ℕ). text (lanes n x)) q
    ∙ lanes-text n k (y / 256) (omega arith) (subst (λ (x : ℕ). all_bytes small (lanes n x) ≡ true) q t.1))

-- a byte is a digit exactly if it differs from `0` by no more than one
digit-tested : (b : ℕ) → small (bit_xor b 48) ≡ is_digit b
digit-tested b = by (dec_le 48 b) (dec_le b 57)
  where
    by : Dec (48 ≤ b) → Dec (b ≤ 57) → small (bit_xor b 48) ≡ is_digit b
    by (yes l) (yes m) =
        let q : b / 16 ≡ 3 = omega arith in
        let a : bit_and b 48 ≡ 48 = and_high b 2 4 ∙ ap (λ (x : ℕ). x % 4 * 16) q in
        rw (le-leb 48 b l, le-leb b 57 m) (le-leb (bit_xor b 48) 9 (omega (arith, xor_add_and b 48)))
    by (yes l) (no m) =
        rw (le-leb 48 b l, lt-leb b 57 (omega arith)) (lt-leb (bit_xor b 48) 9 (omega (arith, xor_add_and b 48, and_high b 2 4)))
    by (no l) m = rw (lt-leb 48 b (omega arith)) (lt-leb (bit_xor b 48) 9 (omega (arith, xor_add_and b 48, and_high b 2 4)))

lanes-tested : (n k y : ℕ) → n ≤ k → all_bytes small (lanes n (bit_xor y (zeros k))) ≡ all_bytes is_digit (lanes n y)
unfolding lanes all_bytes
lanes-tested zero k y h = refl
lanes-tested (suc n) zero y h = absurd (omega arith)
lanes-tested (suc n) (suc k) y h =
    ap₂ (λ (b c : Bool). b && c) (ap small (xor-lane y k) ∙ digit-tested (y % 256))
    (ap (λ (x : ℕ). all_bytes small (lanes n x)) (xor-lanes y k) ∙ lanes-tested n k (y / 256) (omega arith))

-- zeros in front change neither the digits nor the value
zeros-digits : (m : ℕ) (ds : List ℕ) → all_bytes small (replicate m 0 ++ ds) ≡ all_bytes small ds
unfolding all_bytes
zeros-digits zero ds = refl
zeros-digits (suc m) ds = zeros-digits m ds

zeros-value : (m : ℕ) (ds : List ℕ) → value (text (replicate m 0 ++ ds)) ≡ value (text ds)
unfolding value_on
zeros-value zero ds = refl
zeros-value (suc m) ds = zeros-value m ds

-- ---- the digits in the lowest lanes of a word, shifted to the highest

shifted-lanes : (count x : ℕ) → count ≤ 8 → lanes 8 (x * 2 ^ (64 - 8 * count) % 2 ^ 64) ≡ replicate (8 - count) 0 ++ lanes count x
shifted-lanes count x h =
    let e : 64 - 8 * count ≡ 8 * (8 - count) = omega arith in
    let s : 8 - count + count ≡ 8 = omega arith in
    lanes-mod 8 (x * 2 ^ (64 - 8 * count))
    ∙ ap (λ (k : ℕ). lanes 8 (x * 2 ^ k)) e
    ∙ ap (λ (k : ℕ). lanes k (x * 2 ^ (8 * (8 - count)))) (sym s)
    ∙ lanes-shifted (8 - count) count x

-- a word without its `0`s, the lowest lanes shifted to the highest
abbrev shifted : ℕ → ℕ → ℕ
shifted word bits = bit_xor word 0x3030_3030_3030_3030 * 2 ^ (64 - bits) % 2 ^ 64

low-tested : (count word : ℕ) → count ≤ 8 → digit_lanes (shifted word (8 * count)) ≡ all_bytes is_digit (lanes count word)
unfolding zeros
low-tested count word h =
    let x = bit_xor word (zeros 8) in
    ap (all_bytes small) (shifted-lanes count x h) ∙ zeros-digits (8 - count) (lanes count x) ∙ lanes-tested count 8 word h

low_value : (count word : ℕ) → count ≤ 8 → all_bytes is_digit (lanes count word) ≡ true
    → lane_value (shifted word (8 * count)) ≡ value (lanes count word)
unfolding zeros
low_value count word h d =
    let x = bit_xor word (zeros 8) in
    ap (λ (s : List ℕ). value (text s)) (shifted-lanes count x h)
    ∙ zeros-value (8 - count) (lanes count x)
    ∙ ap value (lanes-text count 8 word h (lanes-tested count 8 word h ∙ d))

module _ (word bits : ℕ) (l : InLanes bits) where
  few : l.count ≤ 8
  few = omega (arith, l.most)

  low-lanes : take (bits / 8) (lanes 8 word) ≡ lanes l.count word
  low-lanes =
      let n : bits / 8 ≡ l.count = omega (arith, l.is) in
      rw n (lanes-take l.count 8 word few)

  -- all lanes of the shifted word are digits exactly if its lowest bytes are
  pub digits-test : digit_lanes (shifted word bits) ≡ all_bytes is_digit (take (bits / 8) (lanes 8 word))
  digits-test = rw (low-lanes, l.is) (low-tested l.count word few)

  -- and then these have the lanes' value
  pub digits_are : digit_lanes (shifted word bits) ≡ true → DigitsAre (take (bits / 8) (lanes 8 word)) (shifted word bits)
  digits_are d =
      let t = sym digits-test ∙ d in
      record { digits = t; number = rw (low-lanes, l.is) (low_value l.count word few (rw low-lanes at t)) }
