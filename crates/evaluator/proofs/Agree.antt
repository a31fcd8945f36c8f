-- What an accepted evaluation is worth where variables are unknown: sum, truth and value are those under every
-- assignment that agrees with the words on the known variables, whatever it says of the others.
use mathlib.Core.Path.{◌≡◌, refl, sym, ap, ◌∙◌}
use mathlib.Core.Bool.{Bool, true}
use mathlib.Core.List.{List, [], ◌∷◌}
use Prim.Native.Nat.{ℕ}
use lib.IntN.{ℤ, ◌+ℤ◌}
use Rattle.definitions.specs.Literal.{index_of}
use Rattle.definitions.specs.Row.{Term, Row}
use Rattle.definitions.specs.Table.{Table, accepted}
use Rattle.definitions.specs.Meaning.{Assignment, is_true, sum_of, holds_by, holds, value_of, assigned, is_known}
use Rattle.definitions.specs.Evaluate.{constraint, goal, covered, evaluating_known}
use Rattle.definitions.proofs.Truths.{both}
use Rattle.assigned.specs.WordsSay.{looked}
use Rattle.evaluator.proofs.Meant.{Holds, ConstraintMeant, ObjectiveMeant, known-constraint, known-objective}

-- ---- two assignments that agree where there is a value

module _ (has : ℕ → Bool) (a b : Assignment) (agree : (v : ℕ) → has v ≡ true → b v ≡ a v) where
  sum_agrees : (ts : List Term) → covered has ts ≡ true → sum_of a ts ≡ sum_of b ts
  unfolding covered sum_of is_true
  sum_agrees [] e = refl
  sum_agrees (t ∷ ts) e =
      let v = index_of t.code in
      rw (agree v (both (has v) (covered has ts) e).0, sum_agrees ts (both (has v) (covered has ts) e).1)

  constraint-agrees : (t : Table) (i : ℕ) (sum : ℤ) (h : Bool) → ConstraintMeant t i has a sum h → ConstraintMeant t i has b sum h
  unfolding holds
  constraint-agrees t i sum h m =
      let r = m.held in
      let e = sum_agrees r.terms m.covers in
      record {
        held = r;
        is_held = m.is_held;
        constrains = m.constrains;
        covers = m.covers;
        sum_is = m.sum_is ∙ e;
        holds-is = m.holds-is ∙ ap (λ (s : ℤ). holds_by r.kind s r.bound) e;
      }

  objective-agrees : (t : Table) (i : ℕ) (value : ℤ) → ObjectiveMeant t i has a value → ObjectiveMeant t i has b value
  unfolding value_of
  objective-agrees t i value m =
      let r = m.held in
      record {
        held = r;
        is_held = m.is_held;
        is-objective = m.is-objective;
        covers = m.covers;
        value-is = m.value-is ∙ ap (λ (s : ℤ). s +ℤ r.bound) (sum_agrees r.terms m.covers);
      }

-- ---- the known variables

-- the row at a place is one, so what is said of it under each assignment is said of one row
pub held_one : (t : Table) (i : ℕ) (r r' : Row) → Holds t i r → Holds t i r' → r ≡ r'
held_one t i r r' p q = let e = sym p.line ∙ q.line in cc

module _ (t : Table) (i : ℕ) (ws ks : List ℕ) (b : Assignment)
    (agree : (v : ℕ) → is_known (looked ws) (looked ks) v ≡ true → b v ≡ assigned (looked ws) v) where
  pub agree-constraint : (sum : ℤ) (h : Bool) (ones : ℕ) → evaluating_known t i ws ks ≡ accepted (constraint sum h ones)
      → ConstraintMeant t i (is_known (looked ws) (looked ks)) b sum h
  agree-constraint sum h ones e =
      constraint-agrees (is_known (looked ws) (looked ks)) (assigned (looked ws)) b agree t i sum h
      (known-constraint t i ws ks sum h ones e).0

  pub agree-objective : (value : ℤ) (ones : ℕ) → evaluating_known t i ws ks ≡ accepted (goal value ones)
      → ObjectiveMeant t i (is_known (looked ws) (looked ks)) b value
  agree-objective value ones e =
      objective-agrees (is_known (looked ws) (looked ks)) (assigned (looked ws)) b agree t i value
      (known-objective t i ws ks value ones e).0
