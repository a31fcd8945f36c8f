-- What a walk over a row or a statement answers, and what it leaves in two lent columns: the terms that it met, as far
-- as both have room.
use Rattle.std.specs.Prelude.{ℕ, ◌≡◌, List, ℤ, Option, Result}
use Rattle.definitions.specs.Reader.{Got}
use Rattle.definitions.specs.Row.{Term, Row}
use Rattle.definitions.specs.Text.{statement}
use Rattle.definitions.specs.declared.Options.{Options}
use Rattle.sums.specs.Walked.{TermsPut}
use Rattle.statements.specs.Brief.{brief_row, brief_step}
use Rattle.statements.specs.Met.{statement_met}
use Rattle.statements.specs.Said.{said_statement}
use Rattle.closings.specs.Closed.{said_row}
use Rattle.definitions.specs.declared.Entry.{Entry}
use Rattle.definitions.specs.declared.Fault.{Fault}
use Rattle.definitions.specs.declared.Refusal.{Refusal}
use Rattle.statements.specs.declared.row.Line.{Line}

pub record RowWalked (g : Got Row) (ts : List Term) (w₀ : List ℤ) (l₀ : List ℕ) (r : Result (Entry × ℕ) Fault) (w : List ℤ) (l : List ℕ) : Type 0 where
  pub answer : said_row r ≡ brief_row g
  pub filled : TermsPut ts w₀ l₀ w l

pub record StatementWalked (o : Options) (s : List ℕ) (w₀ : List ℤ) (l₀ : List ℕ) (r : Result (Option Line) Refusal) (w : List ℤ)
    (l : List ℕ) : Type 0 where
  pub answer : said_statement r ≡ brief_step (statement o s)
  pub filled : TermsPut (statement_met o s) w₀ l₀ w l
