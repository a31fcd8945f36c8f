-- What the public entry promises: one answer, and one later content of the output columns.
use Rattle.std.specs.Prelude.{◌≡◌, Result}
use Rattle.definitions.specs.Table.{Table, counted, after}
use Rattle.definitions.specs.Normal.{normalising}
use Rattle.definitions.specs.Answers.{said_counted}
use Rattle.definitions.specs.declared.Refusal.{Refusal}
use Rattle.definitions.specs.declared.Totals.{Totals}

-- the rows of the table t, normal, into the table o, which is o' after the call
pub record Normalises (t o : Table) (r : Result Totals Refusal) (o' : Table) : Type 0 where
  pub answer : said_counted r ≡ counted (normalising t o)
  pub after : o' ≡ after (normalising t o) o
