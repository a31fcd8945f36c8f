-- The second walk: the lines of all rows, and what writing them asks.
use Rattle.std.specs.Prelude.{ℕ, ◌≤◌, ◌≡◌, List, [], length}
use Rattle.definitions.specs.Table.{Table, Outcome, refused, accepted}
use Rattle.definitions.specs.Write.{Item}
use Rattle.definitions.specs.declared.Mode.{Mode}
use Rattle.measures.specs.RowsMeasured.{items_for, lines_of}

abbrev pub lines_by : Mode → Outcome (List Item) → List ℕ
lines_by m (refused r) = []
lines_by m (accepted is) = lines_of m is

abbrev pub lines_for : Mode → Table → List ℕ → List ℕ
lines_for m t text = lines_by m (items_for m t text)

pub record LinesReady (m : Mode) (t : Table) (text : List ℕ) (o : List ℕ) : Type 0 where
  pub items : List Item
  pub are : items_for m t text ≡ accepted items
  pub room : length (lines_of m items) ≤ length o
