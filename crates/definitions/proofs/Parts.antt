-- What is a part of a text or a column, as the code lends it?
use Prim.Native.Nat.{ℕ, ◌-◌}
use mathlib.Core.Path.{◌≡◌}
use mathlib.Core.List.{List}
use native.Mathlib.Omega.{arith}
use lib.ListN.{length, take, drop, length-drop}
use lib.Seq.{take_all}

-- `&s[n..]` is what is left behind n entries
pub part-is : {A : Type 0} (s : List A) (n : ℕ) → take (length s - n) (drop n s) ≡ drop n s
part-is s n = take_all (length s - n) (drop n s) (rw (length-drop n s) (omega arith))
