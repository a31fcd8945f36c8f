-- The file number that digits stand for, before the first index is known. Refusal 5: "file number beyond u32".
use Rattle.std.specs.Prelude.{ℕ, Bool, cond, leb}
use Rattle.definitions.specs.Limits.{file_number_limit}
use Rattle.definitions.specs.Literal.{index, code_of}
use Rattle.definitions.specs.Refusal.{Checked, refuse, accept}

unfoldable pub file_number_of : ℕ → Checked ℕ
file_number_of size = cond (leb size file_number_limit) (accept size) (refuse 5)

-- the index of a file number that was read, or its refusal
abbrev pub then_index : ℕ → Checked ℕ → Checked ℕ
then_index first (refuse e) = refuse e
then_index first (accept n) = index first n

-- the code of an index that was read, or its refusal: an index that was read has both codes
abbrev pub then_code : Bool → Checked ℕ → Checked ℕ
then_code negative (refuse e) = refuse e
then_code negative (accept v) = accept (code_of negative v)
