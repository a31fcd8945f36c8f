-- What the first walk says of a file, and what was counted, held against the room.
use Rattle.std.specs.Prelude.{Result}
use Prim.Native.Nat.{ℕ, ◌≤◌, ◌<◌}
use mathlib.Core.Path.{◌≡◌}
use mathlib.Core.List.{List}
use borrow.Author.Tests.{le-leb, lt-leb}
use lib.ListN.{length}
use Rattle.definitions.specs.Answers.{said_counted}
use Rattle.definitions.specs.Limits.{file_limit}
use Rattle.definitions.specs.Refusal.{refusal}
use Rattle.definitions.specs.Table.{refused, accepted, counted}
use Rattle.definitions.specs.File.{lines_of, statements, file}
use Rattle.definitions.specs.declared.Options.{Options}
use Rattle.definitions.specs.declared.Refusal.{Refusal}
use Rattle.definitions.specs.declared.Totals.{Totals}
use Rattle.counts.specs.Fitted.{fitted_totals}

-- ---- what the first walk says: 1, or the walk over the statements

module _ (o : Options) (s : List ℕ) where
  pub count_long : file_limit < length s → refused (refusal 1 0) ≡ counted (file o s)
  unfolding file
  count_long h = rw (lt-leb (length s) file_limit h)

  pub count-short : length s ≤ file_limit → (r : Result Totals Refusal) → said_counted r ≡ counted (lines_of (statements o s))
      → said_counted r ≡ counted (file o s)
  unfolding file
  count-short h r e = rw (le-leb (length s) file_limit h) e

-- ---- room enough, one refusal after the other
module _ (rows terms : ℕ) (n : Totals) where
  pub rows-beyond : rows < n.rows → refused (refusal 9 n.rows) ≡ fitted_totals rows terms (accepted n)
  rows-beyond h = rw (lt-leb n.rows rows h)

  pub terms-beyond : n.rows ≤ rows → terms < n.terms → refused (refusal 10 n.terms) ≡ fitted_totals rows terms (accepted n)
  terms-beyond h j = rw (le-leb n.rows rows h, lt-leb n.terms terms j)

  pub both-fit : n.rows ≤ rows → n.terms ≤ terms → accepted n ≡ fitted_totals rows terms (accepted n)
  both-fit h j = rw (le-leb n.rows rows h, le-leb n.terms terms j)
