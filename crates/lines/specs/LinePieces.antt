-- What is put for a row, piece by piece: each of its terms, and what stands around them. Behind one another the pieces
-- of a row that is allowed are its line (proofs/WholeLine.antt); of any other row they are what the code puts all the
-- same.
use Rattle.std.specs.Prelude.{ℕ, ◌+◌, Bool, true, false, cond, not, ◌&&◌, List, [], ◌∷◌, ◌++◌, ℤ, pos}
use Rattle.std.specs.Int.Signed.{non_neg}
use Rattle.definitions.specs.Lists.{joined}
use Rattle.definitions.specs.Refusal.{Checked, refuse, accept}
use Rattle.definitions.specs.Bytes.{bytes, min_text, space}
use Rattle.definitions.specs.Number.{integer_text}
use Rattle.definitions.specs.Literal.{index_of, negated, file_number}
use Rattle.definitions.specs.Row.{Term}
use Rattle.definitions.specs.Write.{is_accepted, closed, is_zero}
use Rattle.definitions.specs.Back.{is_goal}
use Rattle.definitions.specs.declared.Kind.{Kind}
use Rattle.definitions.specs.declared.Mode.{Mode}
use Rattle.printed.specs.declared.kinds.Shape.{Shape}
use Rattle.shown.specs.declared.terms.Style.{Style}
use Rattle.shown.specs.declared.terms.Shown.{Shown}
use Rattle.shown.specs.declared.sums.Sums.{Sums}
use Rattle.printed.specs.Kinds.{style_of}
use Rattle.shown.specs.Terms.{literal_words, shown_term, fallen}
use Rattle.shown.specs.Sums.{no_sums, sums_with}
use Rattle.printed.specs.Bounds.{printed_bound}
use Rattle.printed.specs.Rows.{operator_text}

-- ---- a term

abbrev pub space_if : Bool → List (List ℕ)
space_if true = (space ∷ []) ∷ []
space_if false = []

-- with the file number n: a space before each term of an objective, and behind each of a constraint
abbrev pub term_pieces : Bool → Shown → ℕ → List (List ℕ)
term_pieces apart x n = space_if apart ++ (integer_text x.weight ∷ literal_words x.tilde n ∷ space_if (not apart))

-- none where its variable has no file number
abbrev pub shown_pieces : Style → Shown → List (List ℕ)
shown_pieces s x = cond (is_accepted (file_number s.first x.var.0)) (term_pieces s.apart x (x.var.0 + s.first)) []

-- ---- the terms of a row, and their sums

-- a term of the row as the code shows it
abbrev pub shown_of : Style → Term → Shown
shown_of s t = record {
  own = t.weight;
  weight = cond (non_neg t.weight) (shown_term s t).weight t.weight;
  tilde = non_neg t.weight && negated (shown_term s t).code;
  var = record { 0 = index_of t.code };
  falls = non_neg t.weight && fallen s t;
}

unfoldable pub terms_pieces : Style → List Term → List (List ℕ)
terms_pieces s ts = joined (λ t. shown_pieces s (shown_of s t)) ts

unfoldable pub sums_of : Style → Sums → List Term → Sums
sums_of s a [] = a
sums_of s a (t ∷ ts) = sums_of s (sums_with a (shown_of s t).own (shown_of s t).falls) ts

-- ---- what stands behind them

-- 0 in the place of a bound beyond 64 bits
abbrev pub final_bound : Checked ℤ → ℤ
final_bound (refuse n) = pos 0
final_bound (accept z) = z

abbrev pub operator_piece : Kind → List ℕ
operator_piece k = operator_text k ++ (space ∷ [])

abbrev pub comparison_pieces : Kind → ℤ → List (List ℕ)
comparison_pieces k z = operator_piece k ∷ integer_text z ∷ closed ∷ []

-- "If the final offset is not 0, a line ... follows"
abbrev pub offset_pieces : ℤ → List (List ℕ)
offset_pieces z = cond (is_zero z) [] (bytes "* objective offset for previous objective: " ∷ integer_text z ∷ bytes "\n" ∷ [])

abbrev pub ending_pieces : ℤ → List (List ℕ)
ending_pieces z = closed ∷ offset_pieces z

-- ---- a row of the terms ts

abbrev pub bound_by : Shape → Sums → ℤ
bound_by s a = final_bound (printed_bound s.kind s.bound a.total a.fall)

abbrev pub bound_of : Mode → Shape → List Term → ℤ
bound_of m s ts = bound_by s (sums_of (style_of s m) no_sums ts)

abbrev pub head_pieces : Bool → List (List ℕ)
head_pieces true = min_text ∷ []
head_pieces false = []

abbrev pub tail_pieces : Bool → Kind → ℤ → List (List ℕ)
tail_pieces true k z = ending_pieces z
tail_pieces false k z = comparison_pieces k z

unfoldable pub row_pieces : Mode → Shape → List Term → List (List ℕ)
row_pieces m s ts =
    head_pieces (is_goal s.kind) ++ (terms_pieces (style_of s m) ts ++ tail_pieces (is_goal s.kind) s.kind (bound_of m s ts))
