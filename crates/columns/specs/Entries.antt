-- A line of a table as its entry in the four columns of rows.
use Rattle.std.specs.Prelude.{ℕ, length, ℤ}
use Rattle.definitions.specs.Row.{Line, comment, row}
use Rattle.definitions.specs.Table.{kind_number}
use Rattle.definitions.specs.declared.Entry.{Entry}

abbrev pub entry_of : ℕ → ℕ → ℕ → ℤ → Entry
entry_of k f n b = record { kind = k; first = f; count = n; bound = b }

-- before it has a place in a table: no term stands before its own
abbrev pub entry_alone : Line → Entry
entry_alone (comment f n b) = entry_of 0 f n b
entry_alone (row r) = entry_of (kind_number r.kind) 0 (length r.terms) r.bound
