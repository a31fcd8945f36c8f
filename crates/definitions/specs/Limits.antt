-- Which limits are there? (01, "Numbers and tables": "The file and index limits below are our own.")
use Rattle.std.specs.Prelude.{ℕ, Bool, ◌&&◌, ℤ, pos, negsuc}
use Rattle.std.specs.Int.Signed.{le_z}

-- "file, bytes"
abbrev pub file_limit : ℕ
file_limit = 1_073_741_823

-- "variable index"
abbrev pub index_limit : ℕ
index_limit = 1_073_741_823

-- "file number"
abbrev pub file_number_limit : ℕ
file_number_limit = 4_294_967_295

-- "sum of absolute weights in a row ... (M)"
abbrev pub weight_limit : ℕ
weight_limit = 9_223_372_036_854_775_807

-- "bound, weight: signed 64 bits"
abbrev pub least : ℤ
least = negsuc 9_223_372_036_854_775_807

abbrev pub greatest : ℤ
greatest = pos 9_223_372_036_854_775_807

unfoldable pub in_i64 : ℤ → Bool
in_i64 z = le_z least z && le_z z greatest

-- "Words after the first 16,777,216 are not looked at."
abbrev pub word_limit : ℕ
word_limit = 16_777_216

-- "A needed number above 18,446,744,073,709,551,615 is given as that one."
abbrev pub needed_limit : ℕ
needed_limit = 18_446_744_073_709_551_615
