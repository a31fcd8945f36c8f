-- What reading a file and listing what was read promises: the house lines from the front of the output, or the output
-- as it was where they do not fit; and what was read in the columns.
use Rattle.std.specs.Prelude.{ℕ, ◌≡◌, List, length}
use Rattle.definitions.specs.Table.{Table, Outcome, after}
use Rattle.definitions.specs.File.{first_at, reading}
use Rattle.definitions.specs.Write.{fitted_text, output_after}
use Rattle.definitions.specs.House.{listing}

-- the house lines of the file s that is read into the columns t, into an output of so many bytes. What cannot be read
-- is listed too: "A refusal prints `refused`, number, place alone."
-- 14: "output does not fit", with the "length needed"
unfoldable pub file_listing : ℕ → List ℕ → Table → ℕ → Outcome (List ℕ)
file_listing first s t room = fitted_text room (listing first (reading (first_at first) s t))

pub record ListsRead (first : ℕ) (s : List ℕ) (t : Table) (o : List ℕ) (t' : Table) (o' : List ℕ) : Type 0 where
  pub output : o' ≡ output_after (file_listing first s t (length o)) o
  pub tables : t' ≡ after (reading (first_at first) s t) t
