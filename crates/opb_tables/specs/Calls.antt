-- What each call promises: one answer, and one later content of the columns that it was lent to fill.
use Rattle.std.specs.Prelude.{ℕ, ◌≡◌, List}
use Rattle.definitions.specs.Table.{Table, counted, after}
use Rattle.definitions.specs.File.{first_at, file, reading}
use Rattle.definitions.specs.Normal.{normalising}
use Rattle.table_answers.specs.ByValue.{table_answer}
use Rattle.table_answers.specs.declared.OpbTable.{OpbTable}

-- the rows and terms of the file s, whatever room there is
abbrev pub count_answer : ℕ → List ℕ → OpbTable
count_answer first s = table_answer (counted (file (first_at first) s))

-- the file s into the table t, which is t' after the call
pub record ReadsFile (first : ℕ) (s : List ℕ) (t : Table) (r : OpbTable) (t' : Table) : Type 0 where
  pub answer : r ≡ table_answer (counted (reading (first_at first) s t))
  pub after : t' ≡ after (reading (first_at first) s t) t

-- the rows of the table t, normal, into the table o, which is o' after the call
pub record NormalisesTable (t o : Table) (r : OpbTable) (o' : Table) : Type 0 where
  pub answer : r ≡ table_answer (counted (normalising t o))
  pub after : o' ≡ after (normalising t o) o
