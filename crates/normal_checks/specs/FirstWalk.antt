-- What the first walk of the normaliser says of the columns that they are lent. proofs/ ties each to the definitions.
use Rattle.std.specs.Prelude.{ℕ, cond, ◌&&◌, List, [], leb, length, ℤ, ◌+ℤ◌}
use Rattle.definitions.specs.Limits.{weight_limit, in_i64}
use Rattle.definitions.specs.Refusal.{refusal, needed, Checked, refuse, accept}
use Rattle.definitions.specs.Row.{Line, terms_of}
use Rattle.definitions.specs.Table.{Table, table, Outcome, refused, accepted, totals_of, all_terms, entries, row_by_row}
use Rattle.definitions.specs.declared.Entry.{Entry}
use Rattle.definitions.specs.declared.Totals.{Totals}
use Rattle.definitions.specs.Normal.{normal_in}
use Rattle.term_checks.specs.TermTests.{codes_indexed, weight_sizes}
use Rattle.columns.specs.Kinds.{read_kind}
use Rattle.shifts.specs.Shifts.{weight_rises, shift_by}

-- the count of terms of a row of a read kind, whose terms lie in their columns; 11, then 8
unfoldable pub terms_checked : ℕ → ℤ → List ℤ → List ℕ → Checked ℕ
terms_checked k b ws cs =
    cond (codes_indexed cs)
    (cond (leb (weight_sizes ws) weight_limit && in_i64 (b +ℤ shift_by (read_kind k) (weight_rises ws))) (accept (length ws)) (refuse 8))
    (refuse 11)

-- an entry of a table with these two columns of terms
abbrev pub normal_of : Entry → List ℤ → List ℕ → Checked Line
normal_of e ws cs = normal_in (table [] [] [] [] ws cs) e

abbrev pub term_count : Checked Line → Checked ℕ
term_count (refuse n) = refuse n
term_count (accept l) = accept (length (terms_of l))

-- every row of a table, normal, or the first refusal
abbrev pub normal_rows : Table → Outcome (List Line)
normal_rows t = row_by_row (normal_in t) 0 (entries t)

-- how many rows and terms there are to fill; "a needed number above 18,446,744,073,709,551,615 is given as that one"
abbrev pub totals_needed : Outcome (List Line) → Outcome Totals
totals_needed (refused r) = refused r
totals_needed (accepted ls) = accepted (totals_of (length ls) (needed (length (all_terms ls))))

-- "9, then 10", where there is room for so many rows and terms
unfoldable pub totals_within : ℕ → ℕ → Totals → Outcome Totals
totals_within rows terms t =
    cond (leb t.rows rows) (cond (leb t.terms terms) (accepted t) (refused (refusal 10 t.terms))) (refused (refusal 9 t.rows))
