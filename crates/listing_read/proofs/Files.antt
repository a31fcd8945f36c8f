-- What was read is listed: a table that was read holds the rows that were read, so its house lines are those of the
-- rows.
use Rattle.std.specs.Prelude.{Result, Ok, Err}
use mathlib.Core.Path.{◌≡◌, refl, sym, ap, ◌∙◌}
use mathlib.Core.Bool.{Bool, true, false, cond}
use mathlib.Core.List.{List}
use Rattle.std.specs.Prelude.{Option}
use Prim.Native.Nat.{ℕ, ◌+◌}
use native.Mathlib.Omega.{arith}
use lib.Dec.{leb}
use lib.ListN.{length, take}
use Rattle.definitions.specs.Refusal.{refusal, needed}
use Rattle.definitions.specs.Lists.{over}
use Rattle.definitions.specs.Output.{put_in}
use Rattle.definitions.specs.Row.{Line}
use Rattle.definitions.specs.Table.{Table, Outcome, refused, accepted, entries, filled, totals_of, all_terms, counted, after, row_by_row}
use Rattle.definitions.specs.Answers.{said_counted}
use Rattle.definitions.specs.declared.Refusal.{Refusal}
use Rattle.definitions.specs.declared.Totals.{Totals}
use Rattle.definitions.specs.File.{first_at, file, reading}
use Rattle.definitions.specs.Write.{fitted_text, output_after}
use Rattle.definitions.specs.House.{refused_line, listing, listed_entry, listing_table}
use Rattle.laws.proofs.FilledTables.{filled-listed}
use Rattle.laws.proofs.ReadRows.{statements-good, good-indexed, good-numbered}
use Rattle.definitions.proofs.FileAnswers.{file-accepted}
use Rattle.definitions.proofs.Columns.{fitted-accepted}
use Rattle.definitions.proofs.Truths.{never}
use Rattle.outputs.specs.Print.{Prints}
use Rattle.reader.specs.Reads.{Reads}
use Rattle.house.specs.ListsTable.{Lists}
use Rattle.listing_read.specs.ListsRead.{file_listing, ListsRead}

-- ---- what an answer was counted of

refused-count : (e : Refusal) (x : Outcome (List Line)) → refused e ≡ counted x → x ≡ refused e
refused-count e (refused r) q = cc
refused-count e (accepted ls) q = never (cc)

record Counts (n : ℕ) (x : Outcome (List Line)) : Type 0 where
  lines : List Line
  are : x ≡ accepted lines
  count : n ≡ length lines

accepted-count : (n : Totals) (x : Outcome (List Line)) → accepted n ≡ counted x → Counts n.rows x
accepted-count n (refused r) e = never (cc)
accepted-count n (accepted ls) e =
    let q : n ≡ totals_of (length ls) (length (all_terms ls)) = cc in
    record { lines = ls; are = refl; count = ap (λ (z : Totals). z.rows) q }

-- ---- a text from the front of an output, where it fits

front-put : (text o : List ℕ) → put_in text 0 o ≡ output_after (fitted_text (length o) text) o
unfolding put_in output_after
front-put text o =
    let z : 0 + length text ≡ length text = omega arith in
    rw z (by (leb (length text) (length o)))
  where
    by : (b : Bool) → cond b (over text o) o ≡ output_after (cond b (accepted text) (refused (refusal 14 (needed (length text))))) o
    by true = refl
    by false = refl

module _ (first : ℕ) (s : List ℕ) (t : Table) where
  -- ---- "a table that was read" is again the rows that were read, and each has its file numbers: no 11, no 5
  table-back : (ls : List Line) → reading (first_at first) s t ≡ accepted ls
      → row_by_row (listed_entry first (filled ls t)) 0 (take (length ls) (entries (filled ls t))) ≡ accepted ls
  unfolding reading
  table-back ls e =
      let f = fitted-accepted t (file (first_at first) s) ls e in
      let g = file-accepted (first_at first) s ls f.accepts in
      let good = statements-good (first_at first) s ls g.end g.found in
      filled-listed first ls t f.terms (good-indexed first ls good) (good-numbered first ls good)

  module _ (o o' : List ℕ) (t' : Table) (a : Result Totals Refusal) (reads : Reads (first_at first) s t a t') where
    -- ---- a refusal
    module _ (e : Refusal) (q : a ≡ Err e) where
      text-is : refused_line (refusal e.number e.place) ≡ listing first (reading (first_at first) s t)
      unfolding listing
      text-is = rw (refused-count e (reading (first_at first) s t) (sym (ap said_counted q) ∙ reads.answer))

      pub refused-lists : (r : Option ℕ) → Prints (refused_line (refusal e.number e.place)) 0 o r o' → ListsRead first s t o t' o'
      unfolding file_listing
      refused-lists r prints =
          record {
            output =
                prints.after ∙ front-put (refused_line (refusal e.number e.place)) o
                ∙ ap (λ (x : List ℕ). output_after (fitted_text (length o) x) o) text-is;
            tables = reads.after;
          }

    -- ---- a table
    module _ (n : Totals) (q : a ≡ Ok n) where
      counts : Counts n.rows (reading (first_at first) s t)
      counts = accepted-count n (reading (first_at first) s t) (sym (ap said_counted q) ∙ reads.answer)

      table_is : t' ≡ filled counts.lines t
      unfolding after
      table_is = reads.after ∙ ap (λ (x : Outcome (List Line)). after x t) counts.are

      -- the table's listing is that of the rows
      outcome : listing_table first n.rows t' (length o) ≡ file_listing first s t (length o)
      unfolding listing_table file_listing
      outcome =
          ap (λ (x : Table). listing_table first n.rows x (length o)) table_is
          ∙ ap (λ (k : ℕ). listing_table first k (filled counts.lines t) (length o)) counts.count
          ∙ rw (table-back counts.lines counts.are, ← counts.are)

      pub read-lists : (r : Result ℕ Refusal) → Lists first n.rows t' o r o' → ListsRead first s t o t' o'
      read-lists r l = record { output = l.after ∙ ap (λ (x : Outcome (List ℕ)). output_after x o) outcome; tables = reads.after }
