-- What reading a file into lent columns answers, and what it leaves in them.
use Rattle.std.specs.Prelude.{ℕ, ◌≡◌, List, Result}
use Rattle.definitions.specs.Answers.{said_counted}
use Rattle.definitions.specs.File.{reading}
use Rattle.definitions.specs.Row.{Line}
use Rattle.definitions.specs.Table.{Table, accepted, counted, after}
use Rattle.definitions.specs.declared.Options.{Options}
use Rattle.definitions.specs.declared.Refusal.{Refusal}
use Rattle.definitions.specs.declared.Totals.{Totals}

pub record Reads (o : Options) (s : List ℕ) (t₀ : Table) (r : Result Totals Refusal) (t : Table) : Type 0 where
  pub answer : said_counted r ≡ counted (reading o s t₀)
  pub after : t ≡ after (reading o s t₀) t₀

-- a file that reads well, and room for it
pub record Ready (o : Options) (s : List ℕ) (t : Table) : Type 0 where
  pub given : List Line
  pub reads : reading o s t ≡ accepted given
