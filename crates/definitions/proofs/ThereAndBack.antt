-- Do rows come back that are written and read again? Take any table whose rows the writer accepts, in either literal
-- mode. If the written file is within the length limit and the tables have room, reading it with the same first index
-- succeeds; constraints and objectives come back one for one, in order; for every assignment each constraint holds
-- exactly when the original held, and each objective's value plus the offset printed for it (zero where none is) equals
-- the original value with its own offset. All sums are exact whole numbers. (An assignment gives every variable a
-- value, so each covers the rows' variables. specs/Back.antt has the words.)
use Prim.Native.Nat.{ℕ, ◌≤◌}
use mathlib.Core.Path.{◌≡◌, ap, ◌∙◌}
use mathlib.Core.List.{List}
use lib.ListN.{length}
use Rattle.definitions.specs.Lists.{joined, total}
use Rattle.definitions.specs.Limits.{file_limit}
use Rattle.definitions.specs.Row.{Line}
use Rattle.definitions.specs.Table.{Table, accepted, all_terms, row_room, term_room, entries, row_by_row, fitted}
use Rattle.definitions.specs.File.{reading}
use Rattle.definitions.specs.Write.{Item, item_text, written_in, writing}
use Rattle.definitions.specs.Back.{options_of, Paired, rows_asked, rows_in, Means, lines_back, terms_back, Back}
use Rattle.definitions.specs.declared.Mode.{Mode}
use Rattle.definitions.proofs.Asked.{writing-asked, asked-writable}
use Rattle.definitions.proofs.Columns.{fitted-all}
use Rattle.definitions.proofs.ItemsBack.{lines_from, written-file}
use Rattle.definitions.proofs.CountsBack.{lines-back, terms-back}
use Rattle.definitions.proofs.MeansBack.{groups_from, groups-lines, items_back, rows_back}

-- what is said of the file s that is written of the table t in the mode m, with the lent comment text
pub record ThereAndBack (m : Mode) (t : Table) (text s : List ℕ) : Type 0 where
  -- what was asked for, one item for each row of the table, all accepted
  pub items : List Item
  pub asked : row_by_row (written_in m t text) 0 (entries t) ≡ accepted items
  -- and the file is their texts
  pub written : s ≡ joined (item_text m) items
  -- the lines that come back, the same for all tables that they are read into
  pub lines : List Line
  -- reading refuses nothing but a table without room (9, 10)
  pub read : length s ≤ file_limit → (T : Table) → reading (options_of m) s T ≡ fitted T (accepted lines)
  -- so it succeeds where there is room
  pub succeeds : length s ≤ file_limit → (T : Table) → length lines ≤ row_room T → length (all_terms lines) ≤ term_room T
      → reading (options_of m) s T ≡ accepted lines
  -- of each item a line, one more for each offset, and its terms as many as they are
  pub many : length lines ≡ total (lines_back m) items
  pub terms : length (all_terms lines) ≡ total terms_back items
  -- constraints and objectives come back one for one, in order, and mean what they meant
  pub rows : Paired (Means m) (rows_asked items) (rows_in lines)
  -- and all lines belong to the items, in order: a comment to its comment, the line of an offset to its objective
  pub groups : List (List Line)
  pub grouped : lines ≡ joined (λ (g : List Line). g) groups
  pub each : Paired (Back m s) items groups

-- it holds of every file that is written
pub there_and_back : (m : Mode) (t : Table) (text : List ℕ) (room : ℕ) (s : List ℕ) → writing m t text room ≡ accepted s
    → ThereAndBack m t text s
unfolding reading
there_and_back m t text room s e =
    let k = writing-asked m t text room s e in
    let is = k.items in
    let read = written-file m is (asked-writable m t text is k.asked) s k.written in
    let back = items_back m is s k.written in
    record {
      items = is;
      asked = k.asked;
      written = k.written;
      lines = lines_from m 0 is;
      read = λ h T. ap (fitted T) (read h);
      succeeds = λ h T r n. ap (fitted T) (read h) ∙ fitted-all T (lines_from m 0 is) r n;
      many = lines-back m 0 is;
      terms = terms-back m 0 is;
      rows = rw (groups-lines m 0 is) (rows_back m s back);
      groups = groups_from m 0 is;
      grouped = groups-lines m 0 is;
      each = back;
    }
