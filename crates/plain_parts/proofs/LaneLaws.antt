-- Laws of `lanes`: the bytes of a number, a lane of eight bits for each. A number put together of bytes by shifts has
-- them as its lanes.
use mathlib.Core.Path.{◌≡◌, refl, sym, ap, ap₂, ◌∙◌}
use mathlib.Core.List.{List, [], ◌∷◌, ◌++◌}
use Prim.Native.Nat.{ℕ, zero, suc, ◌+◌, ◌*◌, ◌/◌, ◌%◌, ◌^◌, ◌≤◌, ◌<◌}
use native.Mathlib.Nat.{suc-add, zero-add, add_comm, mul-suc, mod-eq_of_lt, div-one}
use native.Mathlib.Omega.{arith}
use native.Mathlib.Numerals.{add-one}
use lib.Arith.{digits_lt}
use lib.Dec.{lit<}
use lib.Bits.{bit_or, or_shifted_r}
use lib.ListN.{length, get_or, take, drop}
use lib.Pow.{pow-add, shl_exact, shr-shr, split, high}
use lib.Seq.{take-suc, take-add}
use Rattle.plain_parts.specs.Lanes.{lanes, Loaded}

-- ---- a number of eight bytes

-- what is made of its lanes
abbrev pub on_lanes : (ℕ → ℕ → ℕ → ℕ → ℕ → ℕ → ℕ → ℕ → ℕ) → ℕ → ℕ
on_lanes f y =
    f (y % 256) (y / 256 % 256) (y / 256 / 256 % 256) (y / 256 / 256 / 256 % 256)
    (y / 256 / 256 / 256 / 256 % 256) (y / 256 / 256 / 256 / 256 / 256 % 256)
    (y / 256 / 256 / 256 / 256 / 256 / 256 % 256) (y / 256 / 256 / 256 / 256 / 256 / 256 / 256 % 256)

-- the number that has eight bytes in its lanes, the first lowest
abbrev pub joined : ℕ → ℕ → ℕ → ℕ → ℕ → ℕ → ℕ → ℕ → ℕ
joined a b c d e f g h = ((((((h * 256 + g) * 256 + f) * 256 + e) * 256 + d) * 256 + c) * 256 + b) * 256 + a

pub joined-lanes : (y : ℕ) → y < 2 ^ 64 → y ≡ on_lanes joined y
joined-lanes y h = omega arith

-- ---- the lanes below a place, and those above

-- the numbers of one lane more
pub lane-pow : (n : ℕ) → 2 ^ (8 * suc n) ≡ 2 ^ (8 * n) * 256
lane-pow n = ap (λ (k : ℕ). 2 ^ k) (mul-suc 8 n) ∙ pow-add 2 (8 * n) 8

pub lanes-take : (n k y : ℕ) → n ≤ k → take n (lanes k y) ≡ lanes n y
unfolding lanes
lanes-take zero k y h = refl
lanes-take (suc n) zero y h = absurd (omega arith)
lanes-take (suc n) (suc k) y h = ap (λ (s : List ℕ). y % 256 ∷ s) (lanes-take n k (y / 256) (omega arith))

lanes-one : (a : ℕ) → a < 256 → lanes 1 a ≡ a ∷ []
unfolding lanes
lanes-one a h = rw (mod-eq_of_lt h)

pub lanes-parts : (m n y : ℕ) → lanes (m + n) y ≡ lanes m y ++ lanes n (y / 2 ^ (8 * m))
unfolding lanes
lanes-parts zero n y = rw (zero-add, div-one)
lanes-parts (suc m) n y =
    rw (suc-add m n)
    (ap (λ (s : List ℕ). y % 256 ∷ s) (lanes-parts m n (y / 256) ∙ rw (shr-shr y 8 (8 * m), mul-suc 8 m, add_comm 8 (8 * m))))

-- what stands above the first lanes does not count
pub lanes_low : (m hi lo : ℕ) → lanes m (hi * 2 ^ (8 * m) + lo) ≡ lanes m lo
unfolding lanes
lanes_low zero hi lo = refl
lanes_low (suc m) hi lo =
    let e : hi * 2 ^ (8 * suc m) ≡ hi * 2 ^ (8 * m) * 256 = ap (λ (n : ℕ). hi * n) (lane-pow m) ∙ omega arith in
    let here : (hi * 2 ^ (8 * suc m) + lo) % 256 ≡ lo % 256 = rw e (omega arith) in
    let rest : (hi * 2 ^ (8 * suc m) + lo) / 256 ≡ hi * 2 ^ (8 * m) + lo / 256 = rw e (omega arith) in
    rw (here, rest, lanes_low m hi (lo / 256))

pub lanes-join : (m n hi lo : ℕ) → lo < 2 ^ (8 * m) → lanes (m + n) (hi * 2 ^ (8 * m) + lo) ≡ lanes m lo ++ lanes n hi
lanes-join m n hi lo h = lanes-parts m n (hi * 2 ^ (8 * m) + lo) ∙ rw (lanes_low m hi lo, high hi (8 * m) h)

pub lanes-mod : (m y : ℕ) → lanes m (y % 2 ^ (8 * m)) ≡ lanes m y
lanes-mod m y = sym (lanes_low m (y / 2 ^ (8 * m)) (y % 2 ^ (8 * m))) ∙ ap (lanes m) (split y (8 * m))

lanes-snoc : (n a x : ℕ) → a < 256 → x < 2 ^ (8 * n) → lanes (suc n) (a * 2 ^ (8 * n) + x) ≡ lanes n x ++ (a ∷ [])
lanes-snoc n a x b h = rw (add-one n) at (lanes-join n 1 a x h ∙ ap (λ (s : List ℕ). lanes n x ++ s) (lanes-one a b))

-- ---- bytes of a list, put into a word

-- a byte, shifted into its lane
abbrev lane_of : List ℕ → ℕ → ℕ
lane_of s n = (get_or s n 0 * 2 ^ (8 * n)) % 2 ^ 64

abbrev pub half_of : List ℕ → ℕ
half_of s = bit_or (bit_or (bit_or (get_or s 0 0) (lane_of s 1)) (lane_of s 2)) (lane_of s 3)

module _ (s : List ℕ) (long : 4 ≤ length s) (byte : (i : ℕ) → get_or s i 0 < 256) where
  first : Loaded s 1 (get_or s 0 0)
  first = record { small = byte 0; bytes = lanes-one (get_or s 0 0) (byte 0) ∙ sym (take-suc s 0 0 (omega arith)) }

  more : (n x : ℕ) → n < 4 → Loaded s n x → Loaded s (suc n) (bit_or x (lane_of s n))
  more n x h l =
      let a = get_or s n 0 in
      let sum : bit_or x (lane_of s n) ≡ a * 2 ^ (8 * n) + x =
      ap (bit_or x) (shl_exact 8 (8 * n) 64 (byte n) (omega arith)) ∙ or_shifted_r a (8 * n) x l.small in
      rw sum
      record {
        small = rw (mul-suc 8 n, add_comm (8 * n) 8, pow-add 2 8 (8 * n)) (digits_lt (byte n) l.small);
        bytes = lanes-snoc n a x (byte n) l.small ∙ rw (l.bytes, take-suc s n 0 (omega arith));
      }

  pub half_is : Loaded s 4 (half_of s)
  half_is = more 3 _ (lit< tt) (more 2 _ (lit< tt) (more 1 _ (lit< tt) first))

-- two halves of a word
pub word-is : (s : List ℕ) (low high : ℕ) → Loaded s 4 low → Loaded (drop 4 s) 4 high
    → lanes 8 (bit_or low ((high * 2 ^ 32) % 2 ^ 64)) ≡ take 8 s
word-is s low high l h =
    let sum : bit_or low ((high * 2 ^ 32) % 2 ^ 64) ≡ high * 2 ^ 32 + low =
    ap (bit_or low) (shl_exact 32 32 64 h.small (omega arith)) ∙ or_shifted_r high 32 low l.small in
    ap (lanes 8) sum ∙ lanes-join 4 4 high low l.small
    ∙ ap₂ (λ (a b : List ℕ). a ++ b) l.bytes h.bytes ∙ sym (take-add 4 4 s)
