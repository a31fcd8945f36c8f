-- What `list_table` promises: the house lines of a table, from the front of the output, or a refusal that changes
-- nothing.
use Rattle.std.specs.Prelude.{ℕ, ◌≡◌, List, length, Result}
use Rattle.definitions.specs.declared.Refusal.{Refusal}
use Rattle.definitions.specs.Table.{Table}
use Rattle.definitions.specs.Write.{length_of, output_after}
use Rattle.definitions.specs.House.{listing_table}
use Rattle.definitions.specs.Answers.{said_length}

pub record Lists (first rows : ℕ) (t : Table) (o : List ℕ) (r : Result ℕ Refusal) (o' : List ℕ) : Type 0 where
  pub answer : said_length r ≡ length_of (listing_table first rows t (length o))
  pub after : o' ≡ output_after (listing_table first rows t (length o)) o
