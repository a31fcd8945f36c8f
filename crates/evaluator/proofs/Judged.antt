-- A row that is judged is evaluated with no ones: sum, truth and value do not depend on their number.
use mathlib.Core.Path.{◌≡◌, refl, ◌∙◌}
use mathlib.Core.Bool.{Bool, true, false, cond}
use mathlib.Core.List.{List, [], ◌∷◌}
use Prim.Native.Nat.{ℕ}
use lib.Dec.{leb}
use Rattle.std.specs.Prelude.{Some}
use lib.ListN.{drop}
use Rattle.definitions.specs.Limits.{weight_limit, in_i64}
use Rattle.definitions.specs.Refusal.{Checked, refuse, accept}
use Rattle.definitions.specs.Row.{Row, Line, comment, row, sizes}
use Rattle.definitions.specs.declared.Kind.{Kind}
use Rattle.definitions.specs.declared.Kind.TheVariants.{AtLeast as at_least, AtMost as at_most, Equal as equal, Objective as objective}
use Rattle.definitions.specs.Table.{Table, Outcome, entries, line_in, and_then}
use Rattle.definitions.specs.declared.Entry.{Entry}
use Rattle.definitions.specs.Meaning.{Assignment, value_of, assigned, is_known}
use Rattle.definitions.specs.Evaluate.{Evaluated, goal, covered, found_by, found, found_in, front_by, on_place, evaluating_by}
use Rattle.definitions.specs.Evaluate.{known_ones, evaluating_known, without_ones, judging}
use Rattle.assigned.specs.WordsSay.{looked}
use Rattle.rows.specs.FoundRow.{evaluating_of}

module _ (i : ℕ) (has : ℕ → Bool) (a : Assignment) (ones : ℕ) where
  by_value : (b : Bool) (r : Row)
      → on_place i (cond b (accept (goal (value_of a r) 0)) (refuse 8))
      ≡ without_ones (on_place i (cond b (accept (goal (value_of a r) ones)) (refuse 8)))
  by_value true r = refl
  by_value false r = refl

  by_kind : (k : Kind) (r : Row) → on_place i (found_by k a 0 r) ≡ without_ones (on_place i (found_by k a ones r))
  by_kind at_least r = refl
  by_kind at_most r = refl
  by_kind equal r = refl
  by_kind objective r = by_value (in_i64 (value_of a r)) r

  by_tests : (small covers : Bool) (r : Row)
      → on_place i (cond small (cond covers (found_by r.kind a 0 r) (refuse 12)) (refuse 8))
      ≡ without_ones (on_place i (cond small (cond covers (found_by r.kind a ones r) (refuse 12)) (refuse 8)))
  by_tests false covers r = refl
  by_tests true false r = refl
  by_tests true true r = by_kind r.kind r

  by-line : (l : Line) → on_place i (found_in has a 0 l) ≡ without_ones (on_place i (found_in has a ones l))
  unfolding found
  by-line (comment f n b) = refl
  by-line (row r) = by_tests (leb (sizes r.terms) weight_limit) (covered has r.terms) r

  by-entry : (c : Checked Line) → on_place i (and_then c (found_in has a 0)) ≡ without_ones (on_place i (and_then c (found_in has a ones)))
  by-entry (refuse n) = refl
  by-entry (accept l) = by-line l

  by_front : (es : List Entry) (t : Table)
      → on_place i (front_by es t (found_in has a 0)) ≡ without_ones (on_place i (front_by es t (found_in has a ones)))
  by_front [] t = refl
  by_front (e ∷ es) t = by-entry (line_in t e)

  pub without-ones : (t : Table) → evaluating_by has a 0 t i ≡ without_ones (evaluating_by has a ones t i)
  unfolding evaluating_by
  without-ones t = by_front (drop i (entries t)) t

-- so under both rows of words
pub judged-is : (t : Table) (i : ℕ) (ws ks : List ℕ) (o : Outcome Evaluated) → o ≡ evaluating_of t i (Some (looked ks)) (looked ws) 0
    → o ≡ judging t i ws ks
unfolding judging evaluating_known looked
judged-is t i ws ks o e =
    e ∙ without-ones i (is_known (looked ws) (looked ks)) (assigned (looked ws)) (known_ones (looked ws) (looked ks)) t
