-- What is said of the parts of a plain term (specs/PartForms.antt) as they are found in a word, their digits in lanes.
-- The byte behind is looked at later.
use Rattle.std.specs.Prelude.{ℕ, ◌-◌, ◌≤◌, ◌<◌, ◌≡◌, Bool, false, List, eqb, length, take, Option, Some, None}
use Rattle.definitions.specs.Bytes.{minus, letter_x, tilde}
use Rattle.definitions.specs.Number.{value}
use Rattle.plain_parts.specs.Lanes.{lanes, lane_value}
use Rattle.plain_parts.specs.PartForms.{byte_at, digits_of, bytes_of, sign, is_weight, letters, is_literal}
use Rattle.plain_parts.specs.declared.word.Lanes.{Lanes}

-- a text that begins with the bytes of a word
pub record Begins (s : List ℕ) (word : ℕ) : Type 0 where
  pub long : 8 ≤ length s
  pub bytes : lanes 8 word ≡ take 8 s

-- a part of k bytes and digits: the digits in lanes, and all its bytes
pub record PartIs (k : ℕ) (s : List ℕ) (digits taken : ℕ) : Type 0 where
  pub number : lane_value digits ≡ value (digits_of k s)
  pub bytes : taken ≡ bytes_of k s
  pub some : k < taken
  pub short : taken ≤ 7

pub record WeightIs (s : List ℕ) (negative : Bool) (digits taken : ℕ) : Type 0 where
  pub front : negative ≡ eqb (byte_at s 0) minus
  pub part : PartIs (sign s) s digits taken

abbrev pub WeightSays : List ℕ → Option Lanes → Type 0
WeightSays s None = is_weight s ≡ false
WeightSays s (Some r) = WeightIs s r.marked r.digits r.taken

-- whichever text begins with the word
abbrev pub WeightIn : ℕ → Option Lanes → Type 0
WeightIn word r = (s : List ℕ) → Begins s word → WeightSays s r

pub record LiteralIs (s : List ℕ) (negated : Bool) (digits taken : ℕ) : Type 0 where
  pub front : negated ≡ eqb (byte_at s 0) tilde
  pub letter : byte_at s (letters s - 1) ≡ letter_x
  pub part : PartIs (letters s) s digits taken

abbrev pub LiteralSays : List ℕ → Option Lanes → Type 0
LiteralSays s None = is_literal s ≡ false
LiteralSays s (Some r) = LiteralIs s r.marked r.digits r.taken

abbrev pub LiteralIn : ℕ → Option Lanes → Type 0
LiteralIn word r = (s : List ℕ) → Begins s word → LiteralSays s r
