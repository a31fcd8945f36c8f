-- The lines of rows in the words of the code: a kind by its number, the terms by their part of the two columns. proofs/
-- ties each to the definitions.
use Rattle.std.specs.Prelude.{ℕ, cond, List, [], ℤ, take}
use Rattle.definitions.specs.Refusal.{Checked, refuse, accept}
use Rattle.definitions.specs.Row.{Line, row, row_of}
use Rattle.definitions.specs.Table.{Table, table, Outcome, entries, terms_on, indexed, row_by_row}
use Rattle.definitions.specs.declared.Entry.{Entry}
use Rattle.definitions.specs.Write.{numbered}
use Rattle.definitions.specs.House.{listed_entry}
use Rattle.columns.specs.Kinds.{read_kind}

-- a row of a kind whose terms lie in their columns: 11 for "an index above its limit", then 5
abbrev pub row_on : ℕ → ℕ → ℤ → List ℤ → List ℕ → Checked Line
row_on first k b ws cs =
    cond (indexed (terms_on ws cs)) (cond (numbered first (terms_on ws cs)) (accept (row (row_of (read_kind k) b (terms_on ws cs)))) (refuse 5))
    (refuse 11)

-- the line of an entry of a table with these two columns
abbrev pub line_on : ℕ → List ℤ → List ℕ → Entry → Checked Line
line_on first ws cs e = listed_entry first (table [] [] [] [] ws cs) e

-- of the first n rows
abbrev pub lines_of : ℕ → ℕ → Table → Outcome (List Line)
lines_of first n t = row_by_row (listed_entry first t) 0 (take n (entries t))
