-- Eight bytes as one number, a lane of eight bits for each, the first byte lowest; digits in lanes; the first marked
-- bit that it has not.
use Rattle.std.specs.Prelude.{ℕ, zero, suc, ◌+◌, ◌*◌, ◌/◌, ◌%◌, ◌^◌, ◌≤◌, ◌<◌, ◌≡◌, Bool, true, false, ◌&&◌, List, [], ◌∷◌, map, leb, take, Option, Some, None}
use Rattle.definitions.specs.Bytes.{is_digit}
use Rattle.definitions.specs.Number.{value}
use Rattle.plain_parts.specs.declared.word.Lanes.{Lanes}

-- the first n bytes of a number
unfoldable pub lanes : ℕ → ℕ → List ℕ
lanes zero y = []
lanes (suc n) y = (y % 256) ∷ lanes n (y / 256)

-- the first n bytes of a text stand in the lanes of x
pub record Loaded (s : List ℕ) (n x : ℕ) : Type 0 where
  pub small : x < 2 ^ (8 * n)
  pub bytes : lanes n x ≡ take n s

-- the number whose eight digits stand in the lanes, as `value` reads them from text
abbrev pub lane_value : ℕ → ℕ
lane_value y = value (map (λ (d : ℕ). 48 + d) (lanes 8 y))

unfoldable pub all_bytes : (ℕ → Bool) → List ℕ → Bool
all_bytes p [] = true
all_bytes p (b ∷ s) = p b && all_bytes p s

-- every lane is from 0 to 9
abbrev pub digit_lanes : ℕ → Bool
digit_lanes y = all_bytes (λ (d : ℕ). leb d 9) (lanes 8 y)

-- so many bits are from one lane to seven
pub record InLanes (bits : ℕ) : Type 0 where
  pub count : ℕ
  pub is : bits ≡ 8 * count
  pub least : 1 ≤ count
  pub most : count ≤ 7

-- bytes that are digits, and their number
pub record DigitsAre (bytes : List ℕ) (y : ℕ) : Type 0 where
  pub digits : all_bytes is_digit bytes ≡ true
  pub number : lane_value y ≡ value bytes

-- a part with these digits, and what else is to be said of it
pub record DigitsIn (bytes : List ℕ) (marked marked' : Bool) (taken taken' y : ℕ) : Type 0 where
  pub mark : marked' ≡ marked
  pub long : taken' ≡ taken
  pub are : DigitsAre bytes y

abbrev pub DigitsSay : ℕ → ℕ → Bool → ℕ → Option Lanes → Type 0
DigitsSay word bits marked taken None = all_bytes is_digit (take (bits / 8) (lanes 8 word)) ≡ false
DigitsSay word bits marked taken (Some r) = DigitsIn (take (bits / 8) (lanes 8 word)) marked r.marked taken r.taken r.digits

-- no bit, or one that is set in the marks and not in the word; and each that is set in the marks below it is set in the
-- word
pub record FirstGap (word marks gap : ℕ) : Type 0 where
  pub there : gap < 64 → (marks / 2 ^ gap % 2 ≡ 1) × (word / 2 ^ gap % 2 ≡ 0)
  pub below : (t : ℕ) → t < gap → marks / 2 ^ t % 2 ≡ 1 → word / 2 ^ t % 2 ≡ 1
