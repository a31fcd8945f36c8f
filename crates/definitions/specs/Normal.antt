-- What is the normal form of a row (01)? "Normalising turns each negative weight w on literal l into -w on the opposite
-- literal; a bound grows by -w, an objective's offset falls by -w. Order and count of terms stay, packed row after row;
-- comment rows are copied as they are. Row by row 11, 8; then 9, 10."
use Rattle.std.specs.Prelude.{ℕ, suc, cond, ◌&&◌, List, [], ◌∷◌, map, leb, ℤ, pos, negsuc, ◌+ℤ◌, ◌-ℤ◌}
use Rattle.definitions.specs.Limits.{weight_limit, in_i64}
use Rattle.definitions.specs.Refusal.{Checked, refuse, accept}
use Rattle.definitions.specs.Literal.{opposite}
use Rattle.definitions.specs.Row.{Term, term, Kind, at_least, at_most, equal, objective, Row, row_of, Line, comment, row, sizes}
use Rattle.definitions.specs.Table.{Table, Outcome, Entry, entries, line_in, and_then, row_by_row, fitted}

-- ---- terms changed one by one, so that the sum grows by a number that no assignment changes

-- a bound moves with the sum, an offset against it
abbrev pub moved : Kind → ℤ → ℤ → ℤ
moved at_least b d = b +ℤ d
moved at_most b d = b +ℤ d
moved equal b d = b +ℤ d
moved objective b d = b -ℤ d

unfoldable pub total_by : (Term → ℤ) → List Term → ℤ
total_by g [] = pos 0
total_by g (t ∷ ts) = g t +ℤ total_by g ts

-- each term by f, which makes the sum greater by g
abbrev pub shifted : (Term → Term) → (Term → ℤ) → Row → Row
shifted f g r = row_of r.kind (moved r.kind r.bound (total_by g r.terms)) (map f r.terms)

-- ---- normal rows

abbrev pub normal_by : ℤ → ℕ → Term
normal_by (pos n) c = term (pos n) c
normal_by (negsuc n) c = term (pos (suc n)) (opposite c)

unfoldable pub normal_term : Term → Term
normal_term t = normal_by t.weight t.code

-- w on l and -w on the opposite of l differ by -w
abbrev pub rise_by : ℤ → ℤ
rise_by (pos n) = pos 0
rise_by (negsuc n) = pos (suc n)

unfoldable pub rise : Term → ℤ
rise t = rise_by t.weight

unfoldable pub normal : Row → Row
normal r = shifted normal_term rise r

-- 8: "absolute weights above M, or a result beyond signed 64 bits"
abbrev pub normal_line : Line → Checked Line
normal_line (comment f n b) = accept (comment f n b)
normal_line (row r) = cond (leb (sizes r.terms) weight_limit && in_i64 (normal r).bound) (accept (row (normal r))) (refuse 8)

unfoldable pub normal_in : Table → Entry → Checked Line
normal_in t e = and_then (line_in t e) normal_line

-- the rows of the table t, normal, into the table o
unfoldable pub normalising : Table → Table → Outcome (List Line)
normalising t o = fitted o (row_by_row (normal_in t) 0 (entries t))
