-- What a call answers, and what it leaves in the output.
use Rattle.std.specs.Prelude.{ℕ, ◌≡◌, List, length, Result}
use Rattle.definitions.specs.declared.Refusal.{Refusal}
use Rattle.definitions.specs.Answers.{said_length}
use Rattle.definitions.specs.Table.{Table}
use Rattle.definitions.specs.Write.{writing, length_of, output_after}
use Rattle.definitions.specs.declared.Mode.{Mode}

-- the rows of the table t, with the comments' text, into the output o: 01's number and place or the length of the
-- lines, and the output after it
pub record Writes (m : Mode) (t : Table) (text o : List ℕ) (r : Result ℕ Refusal) (o' : List ℕ) : Type 0 where
  pub answer : said_length r ≡ length_of (writing m t text (length o))
  pub after : o' ≡ output_after (writing m t text (length o)) o
