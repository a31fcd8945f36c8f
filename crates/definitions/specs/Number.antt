-- How is a number read, and how is one written (01, "The text")? "Number: optional sign, one or more digits, in signed
-- 64 bits. Leading zeros are fine."
use Rattle.std.specs.Prelude.{ℕ, zero, suc, ◌+◌, ◌-◌, ◌*◌, ◌/◌, ◌%◌, Bool, true, false, cond, List, [], ◌∷◌, ◌++◌, ltb, eqb, length, ℤ, pos, negsuc, neg_ℤ}
use Rattle.definitions.specs.Limits.{in_i64}
use Rattle.definitions.specs.Refusal.{fault}
use Rattle.definitions.specs.Bytes.{is_digit, plus, minus}
use Rattle.definitions.specs.Reader.{Got, none, got, Reader}

-- the digits at the front, as many as there are
unfoldable pub leading : List ℕ → List ℕ
leading [] = []
leading (b ∷ s) = elim (is_digit b) [ true ↦ b ∷ leading s | false ↦ [] ]

-- the number that digits stand for, after those that stand for a; the byte 48 is `0`
unfoldable pub value_on : ℕ → List ℕ → ℕ
value_on a [] = a
value_on a (b ∷ s) = value_on (a * 10 + (b - 48)) s

abbrev pub value : List ℕ → ℕ
value ds = value_on 0 ds

abbrev pub signed : Bool → ℕ → ℤ
signed true m = neg_ℤ (pos m)
signed false m = pos m

-- a sign of k bytes and the digits behind it: "number missing, sign alone, or beyond 64 bits" is refusal 3
unfoldable pub ended : Bool → ℕ → List ℕ → Got ℤ
ended negative k ds =
    cond (eqb (length ds) 0) (none (fault 3))
    (cond (in_i64 (signed negative (value ds))) (got (signed negative (value ds)) (k + length ds)) (none (fault 3)))

unfoldable pub number : Reader ℤ
number [] = none (fault 3)
number (b ∷ s) =
    cond (eqb b minus) (ended true 1 (leading s))
    (cond (eqb b plus) (ended false 1 (leading s))
    (ended false 0 (leading (b ∷ s))))

-- the digits of n, with no zero in front but for 0 itself; the first argument is how many there may be
unfoldable pub decimal_in : ℕ → ℕ → List ℕ
decimal_in zero n = []
decimal_in (suc k) n = elim (ltb n 10) [ true ↦ (48 + n) ∷ [] | false ↦ decimal_in k (n / 10) ++ ((48 + n % 10) ∷ []) ]

unfoldable pub decimal : ℕ → List ℕ
decimal n = decimal_in (suc n) n

-- the text of an integer: "the least 64-bit number" too, with no sign but `-`
abbrev pub integer_text : ℤ → List ℕ
integer_text (pos n) = decimal n
integer_text (negsuc n) = minus ∷ decimal (suc n)
