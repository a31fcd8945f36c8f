-- What is answered, from what the walk says and the room that was measured.
use mathlib.Core.Path.{◌≡◌, refl, sym, ap, ◌∙◌}
use mathlib.Core.Bool.{Bool, true, false}
use mathlib.Core.List.{List}
use Prim.Native.Nat.{ℕ, ◌≤◌, ◌<◌}
use native.Mathlib.Omega.{arith}
use native.Mathlib.Decide.{dec_le}
use borrow.Author.Tests.{le-leb, lt-leb, leb-true}
use lib.Dec.{leb}
use lib.ListN.{length}
use Rattle.definitions.specs.Limits.{needed_limit}
use Rattle.definitions.specs.Refusal.{refusal, needed}
use Rattle.definitions.specs.declared.Refusal.{Refusal}
use Rattle.definitions.specs.Row.{Line}
use Rattle.definitions.specs.Table.{Table, row_room, term_room, Outcome, refused, accepted, all_terms, fitted, totals_of, counted}
use Rattle.definitions.specs.declared.Totals.{Totals}
use Rattle.definitions.specs.Normal.{normalising}
use Rattle.definitions.proofs.Truths.{never}
use Rattle.normal_checks.specs.FirstWalk.{normal_rows, totals_needed, totals_within}

-- the needed count of terms fits just where the count does, if the room lies below its limit
needed-fits : (m room : ℕ) → room < needed_limit → leb (needed m) room ≡ leb m room
unfolding needed
needed-fits m room h = cases (dec_le m room)
  where
    cases : Dec (m ≤ room) → leb (needed m) room ≡ leb m room
    cases (yes k) = le-leb (needed m) room (omega arith) ∙ sym (le-leb m room k)
    cases (no k) = lt-leb (needed m) room (omega arith) ∙ sym (lt-leb m room (omega arith))

needed-is : (m : ℕ) → m ≤ needed_limit → needed m ≡ m
unfolding needed
needed-is m h = omega arith

-- ---- 9, then 10, or all that was counted
module _ (rows terms : ℕ) (x : Totals) where
  pub within-rows : rows < x.rows → refused (refusal 9 x.rows) ≡ totals_within rows terms x
  unfolding totals_within
  within-rows h = rw (lt-leb x.rows rows h)

  pub within-terms : x.rows ≤ rows → terms < x.terms → refused (refusal 10 x.terms) ≡ totals_within rows terms x
  unfolding totals_within
  within-terms h k = rw (le-leb x.rows rows h, lt-leb x.terms terms k)

  pub within_all : x.rows ≤ rows → x.terms ≤ terms → accepted x ≡ totals_within rows terms x
  unfolding totals_within
  within_all h k = rw (le-leb x.rows rows h, le-leb x.terms terms k)

module _ (t o : Table) where
  -- ---- what is answered
  pub measured-refused : (i : Refusal) → refused i ≡ totals_needed (normal_rows t) → refused i ≡ counted (normalising t o)
  unfolding normalising fitted
  measured-refused i e = by (normal_rows t) e
    where
      by : (q : Outcome (List Line)) → refused i ≡ totals_needed q → refused i ≡ counted (fitted o q)
      by (refused j) e = let z : i ≡ j = cc in ap refused z
      by (accepted ls) e = never (cc)

  module _ (few : term_room o < needed_limit) where
    within-fitted : (ls : List Line) → length ls ≤ needed_limit → (a b : Bool) → leb (length ls) (row_room o) ≡ a
        → leb (length (all_terms ls)) (term_room o) ≡ b
        → totals_within (row_room o) (term_room o) (totals_of (length ls) (needed (length (all_terms ls)))) ≡ counted (fitted o (accepted ls))
    unfolding fitted totals_within
    within-fitted ls h false b p q = rw p (ap (λ (n : ℕ). refused (refusal 9 n)) (sym (needed-is (length ls) h)))
    within-fitted ls h true false p q = rw (p, needed-fits (length (all_terms ls)) (term_room o) few, q)
    within-fitted ls h true true p q =
        let k : length (all_terms ls) ≤ needed_limit = omega (arith, leb-true (length (all_terms ls)) (term_room o) q) in
        rw (p, needed-fits (length (all_terms ls)) (term_room o) few, q)
        (ap (λ (n : ℕ). accepted (totals_of (length ls) n)) (needed-is (length (all_terms ls)) k))

    pub measured-within : (x : Totals) → x.rows ≤ needed_limit → accepted x ≡ totals_needed (normal_rows t)
        → totals_within (row_room o) (term_room o) x ≡ counted (normalising t o)
    unfolding normalising
    measured-within x h e = by (normal_rows t) e
      where
        by : (q : Outcome (List Line)) → accepted x ≡ totals_needed q → totals_within (row_room o) (term_room o) x ≡ counted (fitted o q)
        by (refused j) e = never (cc)
        by (accepted ls) e =
            let z : x ≡ totals_of (length ls) (needed (length (all_terms ls))) = cc in
            let k : length ls ≤ needed_limit = omega (arith, h, ap (λ (y : Totals). y.rows) z) in
            ap (totals_within (row_room o) (term_room o)) z
            ∙ within-fitted ls k (leb (length ls) (row_room o)) (leb (length (all_terms ls)) (term_room o)) refl refl
