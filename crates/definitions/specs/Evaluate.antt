-- What does the evaluator answer for one row, under an assignment lent as words (01)? "The evaluator answers, for one
-- row, the sum and whether it holds; for an objective, the sum plus the bound column. Order 11 (comments and missing
-- rows too), 8 for absolute weights, 12, then 8 for an objective's value. It also reports the number of ones in the
-- assignment's words. Words after the first 16,777,216 are not looked at." And the same where variables may be unknown
-- (02, A1): "Evaluating a row with an unknown variable is refusal 12."
use Rattle.std.specs.Prelude.{ℕ, ◌*◌, Bool, true, cond, ◌&&◌, List, [], ◌∷◌, leb, ltb, ℤ, length, take, drop}
use Rattle.definitions.specs.Limits.{weight_limit, in_i64, word_limit}
use Rattle.definitions.specs.Refusal.{refusal, Checked, refuse, accept}
use Rattle.definitions.specs.Literal.{index_of}
use Rattle.definitions.specs.Row.{Term, Kind, at_least, at_most, equal, objective, Row, Line, comment, row, sizes}
use Rattle.definitions.specs.Table.{Table, Outcome, refused, accepted, Entry, entries, line_in, and_then}
use Rattle.definitions.specs.Meaning.{Assignment, sum_of, holds, value_of, assigned, true_below, ones_of, is_known}

pub data Evaluated : Type 0 where
  constraint : ℤ → Bool → ℕ → Evaluated
  goal : ℤ → ℕ → Evaluated

-- ---- under the assignment a, which has a value for the variables that `has` holds for, and that number of ones

-- not 12: every variable has a value
unfoldable pub covered : (ℕ → Bool) → List Term → Bool
covered has [] = true
covered has (t ∷ ts) = has (index_of t.code) && covered has ts

abbrev pub found_by : Kind → Assignment → ℕ → Row → Checked Evaluated
found_by at_least a ones r = accept (constraint (sum_of a r.terms) (holds a r) ones)
found_by at_most a ones r = accept (constraint (sum_of a r.terms) (holds a r) ones)
found_by equal a ones r = accept (constraint (sum_of a r.terms) (holds a r) ones)
found_by objective a ones r = cond (in_i64 (value_of a r)) (accept (goal (value_of a r) ones)) (refuse 8)

unfoldable pub found : (ℕ → Bool) → Assignment → ℕ → Row → Checked Evaluated
found has a ones r =
    cond (leb (sizes r.terms) weight_limit)
    (cond (covered has r.terms) (found_by r.kind a ones r) (refuse 12))
    (refuse 8)

-- a comment has no value: 11
abbrev pub found_in : (ℕ → Bool) → Assignment → ℕ → Line → Checked Evaluated
found_in has a ones (comment f n b) = refuse 11
found_in has a ones (row r) = found has a ones r

-- the entry at the front, if one is there: 11 for "missing rows too"
abbrev pub front_by : List Entry → Table → (Line → Checked Evaluated) → Checked Evaluated
front_by [] t f = refuse 11
front_by (e ∷ es) t f = and_then (line_in t e) f

abbrev pub on_place : {A : Type 0} → ℕ → Checked A → Outcome A
on_place i (refuse n) = refused (refusal n i)
on_place i (accept a) = accepted a

unfoldable pub evaluating_by : (ℕ → Bool) → Assignment → ℕ → Table → ℕ → Outcome Evaluated
evaluating_by has a ones t i = on_place i (front_by (drop i (entries t)) t (found_in has a ones))

-- ---- all that the words hold is known: 12 is "variable beyond the assignment"

abbrev pub within : List ℕ → ℕ → Bool
within ws v = ltb v (64 * length ws)

abbrev pub evaluating_words : Table → ℕ → List ℕ → Outcome Evaluated
evaluating_words t i ws = evaluating_by (within ws) (assigned ws) (ones_of ws) t i

unfoldable pub evaluating : Table → ℕ → List ℕ → Outcome Evaluated
evaluating t i ws = evaluating_words t i (take word_limit ws)

-- ---- a second row says which variables are known

-- "the number of ones": of the known variables
unfoldable pub known_ones : List ℕ → List ℕ → ℕ
known_ones ws ks = true_below (λ v. is_known ws ks v && assigned ws v) (64 * length ws)

abbrev pub evaluating_rows : Table → ℕ → List ℕ → List ℕ → Outcome Evaluated
evaluating_rows t i ws ks = evaluating_by (is_known ws ks) (assigned ws) (known_ones ws ks) t i

unfoldable pub evaluating_known : Table → ℕ → List ℕ → List ℕ → Outcome Evaluated
evaluating_known t i ws ks = evaluating_rows t i (take word_limit ws) (take word_limit ks)

-- ---- the same without the ones: for who judges many rows under one assignment

abbrev pub without_ones : Outcome Evaluated → Outcome Evaluated
without_ones (refused r) = refused r
without_ones (accepted (constraint sum holds ones)) = accepted (constraint sum holds 0)
without_ones (accepted (goal value ones)) = accepted (goal value 0)

unfoldable pub judging : Table → ℕ → List ℕ → List ℕ → Outcome Evaluated
judging t i ws ks = without_ones (evaluating_known t i ws ks)
