-- What does an output hold once a text is put into it at a place? "A refused call changes nothing it was lent; an
-- accepted one changes only the entries it counts" (01).
use Rattle.std.specs.Prelude.{ℕ, ◌+◌, Bool, cond, List, ◌++◌, leb, length, take, drop}
use Rattle.definitions.specs.Refusal.{Checked, refuse, accept}

abbrev pub fits_at : List ℕ → ℕ → List ℕ → Bool
fits_at text at o = leb (at + length text) (length o)

-- the place behind the text; 14: "output does not fit"
unfoldable pub put_at : List ℕ → ℕ → List ℕ → Checked ℕ
put_at text at o = cond (fits_at text at o) (accept (at + length text)) (refuse 14)

unfoldable pub put_in : List ℕ → ℕ → List ℕ → List ℕ
put_in text at o = cond (fits_at text at o) (take at o ++ (text ++ drop (at + length text) o)) o
