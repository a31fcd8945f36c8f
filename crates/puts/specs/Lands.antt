-- What a put leaves: the text at its place, and the place behind it; where it does not fit, everything as it was, and
-- the place itself.
use Rattle.std.specs.Prelude.{ℕ, ◌+◌, ◌≡◌, cond, List, length}
use Rattle.definitions.specs.Output.{fits_at, put_in}

abbrev pub place_after : List ℕ → ℕ → List ℕ → ℕ
place_after text at o = cond (fits_at text at o) (at + length text) at

pub record Lands (text : List ℕ) (at : ℕ) (o : List ℕ) (r : ℕ) (o' : List ℕ) : Type 0 where
  pub place : r ≡ place_after text at o
  pub after : o' ≡ put_in text at o
