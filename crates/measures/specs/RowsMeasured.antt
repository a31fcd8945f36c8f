-- The rows of a table: what each asks to be written, and what all of them come to.
use Rattle.std.specs.Prelude.{ℕ, ◌+◌, List, length, Result, Ok, Err}
use Rattle.definitions.specs.Lists.{joined, total}
use Rattle.definitions.specs.Refusal.{needed}
use Rattle.definitions.specs.Table.{Table, Outcome, refused, accepted, entries, row_by_row}
use Rattle.definitions.specs.Write.{Item, item_text, written_in}
use Rattle.definitions.specs.Back.{lines_back, terms_back}
use Rattle.definitions.specs.declared.Mode.{Mode}
use Rattle.definitions.specs.declared.Refusal.{Refusal}
use Rattle.measures.specs.declared.rows.Extent.{Extent}

-- "Row by row": what each row asks to be written, or the first refusal
abbrev pub items_for : Mode → Table → List ℕ → Outcome (List Item)
items_for m t text = row_by_row (written_in m t text) 0 (entries t)

abbrev pub lines_of : Mode → List Item → List ℕ
lines_of m is = joined (item_text m) is

abbrev pub said_measure : Result Extent Refusal → Outcome Extent
said_measure (Ok x) = accepted x
said_measure (Err r) = refused r

-- "A needed number above 18,446,744,073,709,551,615 is given as that one": so of each of the three
abbrev pub added_to : Extent → Extent → Extent
added_to x y = record {
  length = needed (x.length + y.length);
  lines = needed (x.lines + y.lines);
  terms = needed (x.terms + y.terms);
}

-- what all items come to: the length of their text, a line for each and for each offset, and their terms
abbrev pub extents_of : Mode → List Item → Extent
extents_of m is = record {
  length = needed (length (lines_of m is));
  lines = needed (total (lines_back m) is);
  terms = needed (total terms_back is);
}

abbrev pub extent_by : Mode → Outcome (List Item) → Outcome Extent
extent_by m (refused r) = refused r
extent_by m (accepted is) = accepted (extents_of m is)

-- "11, 15, 13, 5 .., 8" with the row, or what the rows come to
abbrev pub extent_for : Mode → Table → List ℕ → Outcome Extent
extent_for m t text = extent_by m (items_for m t text)
