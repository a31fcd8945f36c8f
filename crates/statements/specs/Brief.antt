-- What is kept of a row and of a statement by a walk: its entry, with its terms counted.
use Rattle.std.specs.Prelude.{ℕ, ◌+◌}
use Rattle.definitions.specs.Refusal.{fault_at}
use Rattle.definitions.specs.Reader.{Got, none, got}
use Rattle.definitions.specs.Walk.{Step, stop, bad, item}
use Rattle.definitions.specs.Row.{Row, Line, comment, row}
use Rattle.definitions.specs.declared.Entry.{Entry}
use Rattle.columns.specs.Entries.{entry_of, entry_alone}
use Rattle.columns.specs.Kinds.{first_of_kind}

-- of a statement that was read at an offset of a file: a comment's first is its offset there
abbrev pub entry_at : ℕ → Entry → Entry
entry_at at x = entry_of x.kind (first_of_kind x.kind (at + x.first) 0) x.count x.bound

abbrev pub brief_row : Got Row → Got Entry
brief_row (none e) = none e
brief_row (got r n) = got (entry_alone (row r)) n

abbrev pub brief_step : Step Line → Step Entry
brief_step stop = stop
brief_step (bad r) = bad r
brief_step (item l n) = item (entry_alone l) n

-- a row's or a comment's answer, k blanks on
abbrev pub row_after : ℕ → Got Entry → Step Entry
row_after k (none e) = bad (fault_at k e)
row_after k (got x n) = item x (k + n)

abbrev pub comment_after : ℕ → Got Line → Step Entry
comment_after k (none e) = bad (fault_at k e)
comment_after k (got (comment f m b) n) = item (entry_of 0 (k + f) m b) (k + n)
comment_after k (got (row r) n) = item (entry_alone (row r)) (k + n)
