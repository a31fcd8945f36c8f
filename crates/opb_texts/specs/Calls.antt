-- What each call promises: one answer, and one later content of the output.
use Rattle.std.specs.Prelude.{ℕ, ◌≡◌, not, List, eqb, length}
use Rattle.definitions.specs.Table.{Table}
use Rattle.definitions.specs.Write.{writing, output_after}
use Rattle.definitions.specs.House.{listing_table}
use Rattle.definitions.specs.declared.Mode.{Mode}
use Rattle.opb_texts.specs.ByValue.{text_answer}
use Rattle.opb_texts.specs.declared.OpbText.{OpbText}

-- the mode as C lends it: "In no-negated mode": any number but 0
abbrev pub mode_at : ℕ → ℕ → Mode
mode_at first plain = record { first = first; plain = not (eqb plain 0) }

-- the rows of the table t, with the comments' text, as the lines of a file into the output o, which is o' after the
-- call
pub record WritesLines (first plain : ℕ) (t : Table) (text o : List ℕ) (r : OpbText) (o' : List ℕ) : Type 0 where
  pub answer : r ≡ text_answer (writing (mode_at first plain) t text (length o))
  pub after : o' ≡ output_after (writing (mode_at first plain) t text (length o)) o

-- the first rows of the table t as house lines into the output o, which is o' after the call
pub record ListsTable (first rows : ℕ) (t : Table) (o : List ℕ) (r : OpbText) (o' : List ℕ) : Type 0 where
  pub answer : r ≡ text_answer (listing_table first rows t (length o))
  pub after : o' ≡ output_after (listing_table first rows t (length o)) o
