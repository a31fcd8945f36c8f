-- What are the parts of a plain term? `-12 `: a weight of at most seven bytes, `-` or nothing and digits. `~x345 `: a
-- literal of at most seven bytes, `x` or `~x` and digits, a file number above 0. One space stands behind each, and at
-- least eight bytes are left.
use Rattle.std.specs.Prelude.{ℕ, ◌+◌, ◌-◌, Bool, cond, ◌&&◌, List, eqb, leb, ltb, length, drop, get_or, Option, Some, None}
use Rattle.definitions.specs.Bytes.{space, minus, letter_x, tilde}
use Rattle.definitions.specs.Number.{leading, value}
use Rattle.plain_parts.specs.declared.PlainWeight.{PlainWeight}
use Rattle.plain_parts.specs.declared.PlainLiteral.{PlainLiteral}

-- the byte at a place; 0 behind the end
abbrev pub byte_at : List ℕ → ℕ → ℕ
byte_at s i = get_or s i 0

-- ---- a part: k bytes, and the digits behind them, as many as there are

abbrev pub digits_of : ℕ → List ℕ → List ℕ
digits_of k s = leading (drop k s)

abbrev pub bytes_of : ℕ → List ℕ → ℕ
bytes_of k s = k + length (digits_of k s)

-- one digit at least, seven bytes at most, and a space behind them
unfoldable pub is_part : ℕ → List ℕ → Bool
is_part k s = ltb k (bytes_of k s) && (leb (bytes_of k s) 7 && eqb (byte_at s (bytes_of k s)) space)

-- a part at the front of a text: whether a `-` or a `~` begins it, its number, and its bytes; or none there
pub data Found : Type 0 where
  found : Bool → ℕ → ℕ → Found
  nothing : Found

-- ---- a weight: `-` or nothing, and digits
unfoldable pub sign : List ℕ → ℕ
sign s = cond (eqb (byte_at s 0) minus) 1 0

abbrev pub is_weight : List ℕ → Bool
is_weight s = is_part (sign s) s

unfoldable pub weight_at : List ℕ → Found
weight_at s =
    cond (leb 8 (length s) && is_weight s)
    (found (eqb (byte_at s 0) minus) (value (digits_of (sign s) s)) (bytes_of (sign s) s)) nothing

abbrev pub said_weight : Option PlainWeight → Found
said_weight (Some w) = found w.negative w.size w.taken
said_weight None = nothing

-- ---- a literal: `x` or `~x`, and digits
unfoldable pub letters : List ℕ → ℕ
letters s = cond (eqb (byte_at s 0) tilde) 2 1

unfoldable pub is_literal : List ℕ → Bool
is_literal s = eqb (byte_at s (letters s - 1)) letter_x && is_part (letters s) s

-- a literal whose file number is above 0
abbrev pub is_numbered : List ℕ → Bool
is_numbered s = is_literal s && ltb 0 (value (digits_of (letters s) s))

unfoldable pub literal_at : List ℕ → Found
literal_at s =
    cond (leb 8 (length s) && is_numbered s)
    (found (eqb (byte_at s 0) tilde) (value (digits_of (letters s) s)) (bytes_of (letters s) s)) nothing

abbrev pub said_literal : Option PlainLiteral → Found
said_literal (Some l) = found l.negated l.number l.taken
said_literal None = nothing
