-- What the code's answer to printing says, and what a print leaves in the output.
use Rattle.std.specs.Prelude.{◌≡◌, ℕ, ◌+◌, ◌*◌, ◌/◌, ◌%◌, Bool, true, false, List, ◌∷◌, Option, None, Some}
use Rattle.definitions.specs.Bytes.{minus}
use Rattle.definitions.specs.Number.{decimal}
use Rattle.definitions.specs.Refusal.{Checked, refuse, accept}
use Rattle.definitions.specs.Output.{put_at, put_in}

-- the place behind the text; "output does not fit": 14
abbrev pub put : Option ℕ → Checked ℕ
put (Some n) = accept n
put None = refuse 14

-- the text at a place of the output o: the answer, and the output after it
pub record Prints (text : List ℕ) (at : ℕ) (o : List ℕ) (r : Option ℕ) (o' : List ℕ) : Type 0 where
  pub answer : put r ≡ put_at text at o
  pub after : o' ≡ put_in text at o

-- the digits of m behind a sign, if it is negative
abbrev pub signed_text : Bool → ℕ → List ℕ
signed_text true m = minus ∷ decimal m
signed_text false m = decimal m

-- the four digits of a number below 10,000 in one number, the first byte lowest
abbrev pub four_bytes : ℕ → ℕ
four_bytes m = 48 + m / 1000 + 256 * (48 + m / 100 % 10 + 256 * (48 + m / 10 % 10 + 256 * (48 + m % 10)))
