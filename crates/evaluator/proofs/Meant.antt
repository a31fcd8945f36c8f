-- What an accepted answer means: the row that the table holds at the place, of which every variable has a value, its
-- sum under the assignment, whether it holds, or its value, and the number of true variables. The assignment is that of
-- the words that are looked at. Said once for any assignment, then for words of which everything is known and for words
-- with a second row that says what is.
use mathlib.Core.Path.{◌≡◌, refl, sym, ◌∙◌}
use mathlib.Core.Bool.{Bool, true, false, cond}
use mathlib.Core.List.{List}
use Prim.Native.Nat.{ℕ, ◌<◌}
use native.Mathlib.Omega.{arith}
use native.Mathlib.Decide.{dec_lt}
use lib.Dec.{leb}
use lib.IntN.{ℤ}
use Rattle.std.specs.Prelude.{Ok}
use Rattle.definitions.specs.Limits.{weight_limit, in_i64}
use Rattle.definitions.specs.Refusal.{Checked, refuse, accept}
use Rattle.definitions.specs.Row.{Row, Line, comment, row, sizes}
use Rattle.definitions.specs.declared.Kind.{Kind}
use Rattle.definitions.specs.declared.Kind.TheVariants.{AtLeast as at_least, AtMost as at_most, Equal as equal, Objective as objective}
use Rattle.definitions.specs.Table.{Table, row_room, accepted, line_in, and_then}
use Rattle.definitions.specs.Meaning.{Assignment, sum_of, holds, value_of, assigned, ones_of, is_known}
use Rattle.definitions.specs.Evaluate.{Evaluated as Found, constraint, goal, covered, found_by, found, found_in, on_place}
use Rattle.definitions.specs.Evaluate.{evaluating_by, within, evaluating, known_ones, evaluating_known}
use Rattle.columns.proofs.EntryLaws.{entry_at, entries_from}
use Rattle.verdicts.specs.declared.Evaluated.TheVariants.{Constraint, Objective}
use Rattle.tables.specs.Lent.{table_of}
use Rattle.assigned.specs.WordsSay.{looked}
use Rattle.rows.proofs.RowAnswers.{row-missing}
use Rattle.evaluator.proofs.evaluate.Reads as evaluate
use Rattle.evaluator.proofs.evaluate_known.Reads as evaluate-known

-- row i of the table t is r
pub record Holds (t : Table) (i : ℕ) (r : Row) : Type 0 where
  pub there : i < row_room t
  pub line : line_in t (entry_at t i) ≡ accept (row r)

-- under the assignment a, which has a value for the variables that `has` holds for
pub record ConstraintMeant (t : Table) (i : ℕ) (has : ℕ → Bool) (a : Assignment) (sum : ℤ) (h : Bool) : Type 0 where
  pub held : Row
  pub is_held : Holds t i held
  pub constrains : held.kind ≡ objective → ⊥
  pub covers : covered has held.terms ≡ true
  pub sum_is : sum ≡ sum_of a held.terms
  pub holds-is : h ≡ holds a held

pub record ObjectiveMeant (t : Table) (i : ℕ) (has : ℕ → Bool) (a : Assignment) (value : ℤ) : Type 0 where
  pub held : Row
  pub is_held : Holds t i held
  pub is-objective : held.kind ≡ objective
  pub covers : covered has held.terms ≡ true
  pub value-is : value ≡ value_of a held

-- ---- of the definition

no-refusal {ℓ} : {X : Type ℓ} {A : Type 0} (n : ℕ) (x : A) → refuse n ≡ accept x → X
no-refusal n x e = let z : ◌≡◌ {A = ℕ} 0 1 = cc in absurd (omega arith)

placed : (i : ℕ) (c : Checked Found) (x : Found) → on_place i c ≡ accepted x → c ≡ accept x
placed i (refuse n) x e = let z : ◌≡◌ {A = ℕ} 0 1 = cc in absurd (omega arith)
placed i (accept y) x e = cc

module _ (has : ℕ → Bool) (a : Assignment) (n : ℕ) where
  -- a row that is evaluated is not too large, and each of its variables has a value
  found-by : (r : Row) (x : Found) → found has a n r ≡ accept x → (covered has r.terms ≡ true) × (found_by r.kind a n r ≡ accept x)
  unfolding found
  found-by r x e = cases (leb (sizes r.terms) weight_limit) (covered has r.terms) e
    where
      cases : (b d : Bool) → cond b (cond d (found_by r.kind a n r) (refuse 12)) (refuse 8) ≡ accept x
          → (d ≡ true) × (found_by r.kind a n r ≡ accept x)
      cases true true e = (refl, e)
      cases true false e = no-refusal 12 x e
      cases false d e = no-refusal 8 x e

  -- and it is the row that the table holds
  record Entered (t : Table) (i : ℕ) (x : Found) : Type 0 where
    held : Row
    is_held : Holds t i held
    covers : covered has held.terms ≡ true
    is_found : found_by held.kind a n held ≡ accept x

  line-entered : (t : Table) (i : ℕ) (x : Found) → i < row_room t → (l : Checked Line) → line_in t (entry_at t i) ≡ l
      → and_then l (found_in has a n) ≡ accept x
      → Entered t i x
  line-entered t i x h (refuse m) q e = no-refusal m x e
  line-entered t i x h (accept (comment f m b)) q e = no-refusal 11 x e
  line-entered t i x h (accept (row r)) q e =
      let p = found-by r x e in
      record { held = r; is_held = record { there = h; line = q }; covers = p.0; is_found = p.1 }

  entered : (t : Table) (i : ℕ) (x : Found) → evaluating_by has a n t i ≡ accepted x → Entered t i x
  unfolding evaluating_by
  entered t i x e = cases (dec_lt i (row_room t))
    where
      cases : Dec (i < row_room t) → Entered t i x
      cases (yes h) =
          line-entered t i x h (line_in t (entry_at t i)) refl
          (placed i (and_then (line_in t (entry_at t i)) (found_in has a n)) x (rw (entries_from t i h) at e))
      cases (no h) = let q = sym (row-missing t i has a n (omega arith)) ∙ e in let z : ◌≡◌ {A = ℕ} 0 1 = cc in absurd (omega arith)

  module _ (r : Row) where
    constraint-parts : (sum : ℤ) (h : Bool) (ones : ℕ) (k : Kind) → found_by k a n r ≡ accept (constraint sum h ones)
        → (k ≡ objective → ⊥) × (sum ≡ sum_of a r.terms) × (h ≡ holds a r) × (ones ≡ n)
    constraint-parts sum h ones at_least e = ((λ q. let z : ◌≡◌ {A = ℕ} 0 1 = cc in omega arith), (cc), (cc), (cc))
    constraint-parts sum h ones at_most e = ((λ q. let z : ◌≡◌ {A = ℕ} 0 1 = cc in omega arith), (cc), (cc), (cc))
    constraint-parts sum h ones equal e = ((λ q. let z : ◌≡◌ {A = ℕ} 0 1 = cc in omega arith), (cc), (cc), (cc))
    constraint-parts sum h ones objective e = absurd (none (in_i64 (value_of a r)) e)
      where
        none : (b : Bool) → cond b (accept (goal (value_of a r) n)) (refuse 8) ≡ accept (constraint sum h ones) → ⊥
        none true e = let z : ◌≡◌ {A = ℕ} 0 1 = cc in omega arith
        none false e = no-refusal 8 (constraint sum h ones) e

    no-constraint {ℓ} : {X : Type ℓ} (sum value : ℤ) (h : Bool) (ones m : ℕ) → accept (constraint sum h ones) ≡ accept (goal value m) → X
    no-constraint sum value h ones m e = let z : ◌≡◌ {A = ℕ} 0 1 = cc in absurd (omega arith)

    objective-parts : (value : ℤ) (ones : ℕ) (k : Kind) → found_by k a n r ≡ accept (goal value ones)
        → (k ≡ objective) × (value ≡ value_of a r) × (ones ≡ n)
    objective-parts value ones at_least e = no-constraint _ _ _ _ _ e
    objective-parts value ones at_most e = no-constraint _ _ _ _ _ e
    objective-parts value ones equal e = no-constraint _ _ _ _ _ e
    objective-parts value ones objective e = (refl, (cases (in_i64 (value_of a r)) e).0, (cases (in_i64 (value_of a r)) e).1)
      where
        cases : (b : Bool) → cond b (accept (goal (value_of a r) n)) (refuse 8) ≡ accept (goal value ones)
            → (value ≡ value_of a r) × (ones ≡ n)
        cases true e = ((cc), (cc))
        cases false e = no-refusal 8 (goal value ones) e

  module _ (t : Table) (i : ℕ) where
    pub by-constraint : (sum : ℤ) (h : Bool) (ones : ℕ) → evaluating_by has a n t i ≡ accepted (constraint sum h ones)
        → ConstraintMeant t i has a sum h × (ones ≡ n)
    by-constraint sum h ones e =
        let m = entered t i (constraint sum h ones) e in
        let p = constraint-parts m.held sum h ones m.held.kind m.is_found in
        (record { held = m.held; is_held = m.is_held; constrains = p.0; covers = m.covers; sum_is = p.1; holds-is = p.2 }, p.3)

    pub by-objective : (value : ℤ) (ones : ℕ) → evaluating_by has a n t i ≡ accepted (goal value ones)
        → ObjectiveMeant t i has a value × (ones ≡ n)
    by-objective value ones e =
        let m = entered t i (goal value ones) e in
        let p = objective-parts m.held value ones m.held.kind m.is_found in
        (record { held = m.held; is_held = m.is_held; is-objective = p.0; covers = m.covers; value-is = p.1 }, p.2)

-- ---- all that the words hold is known

module _ (t : Table) (i : ℕ) (ws : List ℕ) where
  pub evaluating-constraint : (sum : ℤ) (h : Bool) (ones : ℕ) → evaluating t i ws ≡ accepted (constraint sum h ones)
      → ConstraintMeant t i (within (looked ws)) (assigned (looked ws)) sum h × (ones ≡ ones_of (looked ws))
  unfolding evaluating looked
  evaluating-constraint sum h ones e = by-constraint (within (looked ws)) (assigned (looked ws)) (ones_of (looked ws)) t i sum h ones e

  pub evaluating-objective : (value : ℤ) (ones : ℕ) → evaluating t i ws ≡ accepted (goal value ones)
      → ObjectiveMeant t i (within (looked ws)) (assigned (looked ws)) value × (ones ≡ ones_of (looked ws))
  unfolding evaluating looked
  evaluating-objective value ones e = by-objective (within (looked ws)) (assigned (looked ws)) (ones_of (looked ws)) t i value ones e

-- ---- a second row says which variables are known

module _ (t : Table) (i : ℕ) (ws ks : List ℕ) where
  pub known-constraint : (sum : ℤ) (h : Bool) (ones : ℕ) → evaluating_known t i ws ks ≡ accepted (constraint sum h ones)
      → ConstraintMeant t i (is_known (looked ws) (looked ks)) (assigned (looked ws)) sum h × (ones ≡ known_ones (looked ws) (looked ks))
  unfolding evaluating_known looked
  known-constraint sum h ones e =
      by-constraint (is_known (looked ws) (looked ks)) (assigned (looked ws)) (known_ones (looked ws) (looked ks)) t i sum h ones e

  pub known-objective : (value : ℤ) (ones : ℕ) → evaluating_known t i ws ks ≡ accepted (goal value ones)
      → ObjectiveMeant t i (is_known (looked ws) (looked ks)) (assigned (looked ws)) value × (ones ≡ known_ones (looked ws) (looked ks))
  unfolding evaluating_known looked
  known-objective value ones e =
      by-objective (is_known (looked ws) (looked ks)) (assigned (looked ws)) (known_ones (looked ws) (looked ks)) t i value ones e

-- ---- of the code: two answers of each function, with what it was lent

pub evaluate-constraint : (κs : _) (a : _) (sum : ℤ) (h : Bool) (ones : ℕ) (s : _) → evaluate.Post κs a (Ok (Constraint sum h ones)) s
    → ConstraintMeant (table_of a.0) a.1.0 (within (looked a.1.1.0.now)) (assigned (looked a.1.1.0.now)) sum h
    × (ones ≡ ones_of (looked a.1.1.0.now))
evaluate-constraint κs a sum h ones s p = evaluating-constraint _ _ _ sum h ones (sym p)

pub evaluate-objective : (κs : _) (a : _) (value : ℤ) (ones : ℕ) (s : _) → evaluate.Post κs a (Ok (Objective value ones)) s
    → ObjectiveMeant (table_of a.0) a.1.0 (within (looked a.1.1.0.now)) (assigned (looked a.1.1.0.now)) value
    × (ones ≡ ones_of (looked a.1.1.0.now))
evaluate-objective κs a value ones s p = evaluating-objective _ _ _ value ones (sym p)

pub evaluate-known-constraint : (κs : _) (a : _) (sum : ℤ) (h : Bool) (ones : ℕ) (s : _)
    → evaluate-known.Post κs a (Ok (Constraint sum h ones)) s
    → ConstraintMeant (table_of a.0) a.1.0 (is_known (looked a.1.1.0.now) (looked a.1.1.1.0.now)) (assigned (looked a.1.1.0.now)) sum h
    × (ones ≡ known_ones (looked a.1.1.0.now) (looked a.1.1.1.0.now))
evaluate-known-constraint κs a sum h ones s p = known-constraint _ _ _ _ sum h ones (sym p)

pub evaluate-known-objective : (κs : _) (a : _) (value : ℤ) (ones : ℕ) (s : _) → evaluate-known.Post κs a (Ok (Objective value ones)) s
    → ObjectiveMeant (table_of a.0) a.1.0 (is_known (looked a.1.1.0.now) (looked a.1.1.1.0.now)) (assigned (looked a.1.1.0.now)) value
    × (ones ≡ known_ones (looked a.1.1.0.now) (looked a.1.1.1.0.now))
evaluate-known-objective κs a value ones s p = known-objective _ _ _ _ value ones (sym p)
