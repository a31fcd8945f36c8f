-- What listing a file promises: the house lines of what was read, from the front of the output, with what was read in
-- the columns; or a refusal that changes nothing.
use Rattle.std.specs.Prelude.{ℕ, ◌≡◌, List, length, Result}
use Rattle.definitions.specs.declared.Refusal.{Refusal}
use Rattle.definitions.specs.Row.{Line}
use Rattle.definitions.specs.Table.{Table, Outcome, refused, accepted, after}
use Rattle.definitions.specs.File.{first_at, reading}
use Rattle.definitions.specs.Write.{length_of, output_after}
use Rattle.definitions.specs.Answers.{said_length}
use Rattle.listing_read.specs.ListsRead.{file_listing}

-- what the columns hold after a call that read x and listed it, or was refused: "A refused call changes nothing it was
-- lent"
abbrev pub table_after : Outcome (List ℕ) → Outcome (List Line) → Table → Table
table_after (refused r) x t = t
table_after (accepted text) x t = after x t

pub record ListsFile (first : ℕ) (s : List ℕ) (t : Table) (o : List ℕ) (r : Result ℕ Refusal) (t' : Table) (o' : List ℕ) : Type 0 where
  pub answer : said_length r ≡ length_of (file_listing first s t (length o))
  pub output : o' ≡ output_after (file_listing first s t (length o)) o
  pub tables : t' ≡ table_after (file_listing first s t (length o)) (reading (first_at first) s t) t
