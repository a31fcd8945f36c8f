-- What are file numbers, variable indexes and literal codes (01, "Numbers and tables")? "A variable index is the file
-- number less the first index (an option, any u32). A literal code is twice the index, plus 1 if negated."
use Rattle.std.specs.Prelude.{ℕ, ◌+◌, ◌-◌, ◌*◌, ◌/◌, ◌%◌, Bool, true, false, cond, ◌&&◌, leb, eqb}
use Rattle.definitions.specs.Limits.{index_limit, file_number_limit}
use Rattle.definitions.specs.Refusal.{Checked, refuse, accept}

abbrev pub code_of : Bool → ℕ → ℕ
code_of false v = 2 * v
code_of true v = 2 * v + 1

abbrev pub index_of : ℕ → ℕ
index_of c = c / 2

abbrev pub negated : ℕ → Bool
negated c = eqb (c % 2) 1

-- "the opposite literal"
unfoldable pub opposite : ℕ → ℕ
opposite c = c + 1 - 2 * (c % 2)

-- the code of the plain variable
unfoldable pub plain : ℕ → ℕ
plain c = c - c % 2

-- "index above its limit"
abbrev pub is_index : ℕ → Bool
is_index v = leb v index_limit

-- refusal 5: "file number beyond u32, below the first index, or index above its limit"
unfoldable pub index : ℕ → ℕ → Checked ℕ
index first n = cond (leb n file_number_limit && (leb first n && is_index (n - first))) (accept (n - first)) (refuse 5)

-- writing: "5 (file number)"
unfoldable pub file_number : ℕ → ℕ → Checked ℕ
file_number first v = cond (leb (v + first) file_number_limit) (accept (v + first)) (refuse 5)

-- a literal of a variable, whose index has a code
unfoldable pub code_for : Bool → ℕ → Checked ℕ
code_for negative v = cond (is_index v) (accept (code_of negative v)) (refuse 5)
