-- A table that lines were filled into is the lines again, read row by row, and listed row by row.
use Prim.Native.Nat.{ℕ, ◌≤◌}
use mathlib.Core.Path.{◌≡◌, refl}
use mathlib.Core.List.{List, []}
use lib.ListN.{length, take}
use Rattle.definitions.specs.Lists.{AllOf}
use Rattle.definitions.specs.Refusal.{accept}
use Rattle.definitions.specs.Row.{Line, comment, row}
use Rattle.definitions.specs.Table.{Table, term_room, accepted, all_terms, filled, entries, row_by_row, line_in}
use Rattle.definitions.specs.House.{listed_line, listed_entry}
use Rattle.definitions.proofs.Each.{each-so}
use Rattle.definitions.proofs.Columns.{rows-again}
use Rattle.laws.proofs.Tables.{Indexed, Numbered, rows_back, filled-entries}

-- "a table that was read" is again the lines that were read, row by row
pub filled-back : (ls : List Line) (t : Table) (room : length (all_terms ls) ≤ term_room t) → AllOf Indexed ls
    → row_by_row (line_in (filled ls t)) 0 (take (length ls) (entries (filled ls t))) ≡ accepted ls
filled-back ls t room g = rw (filled-entries ls t) (rows_back ls t room 0 [] ls g refl)

-- where each has its file numbers, they are listed row by row, too
numbered-listed : (first : ℕ) (l : Line) → Numbered first l → listed_line first l ≡ accept l
numbered-listed first (comment f n b) h = refl
numbered-listed first (row r) h = rw h

pub filled-listed : (first : ℕ) (ls : List Line) (t : Table) (room : length (all_terms ls) ≤ term_room t) → AllOf Indexed ls
    → AllOf (Numbered first) ls
    → row_by_row (listed_entry first (filled ls t)) 0 (take (length ls) (entries (filled ls t))) ≡ accepted ls
unfolding listed_entry
filled-listed first ls t room g h =
    rows-again (line_in (filled ls t)) (listed_line first) 0 (take (length ls) (entries (filled ls t))) ls (filled-back ls t room g)
    (each-so (Numbered first) (λ (l : Line). listed_line first l ≡ accept l) (numbered-listed first) ls h)
