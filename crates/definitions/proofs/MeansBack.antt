-- Do the lines of a written file say what was asked for? Item by item, with the text of each comment in the file.
use Prim.Native.Nat.{ℕ, zero, suc, ◌+◌}
use mathlib.Core.Path.{◌≡◌, refl, sym, ap, ◌∙◌}
use mathlib.Core.Bool.{Bool, true, false, cond}
use mathlib.Core.List.{List, [], ◌∷◌, ◌++◌, append_assoc}
use native.Mathlib.Omega.{arith}
use lib.Dec.{eqb}
use lib.ListN.{length, take, drop, length-append}
use lib.Seq.{drop-append-add}
use lib.IntN.{ℤ, pos, negsuc, ◌+ℤ◌, +ℤ_idr}
use Rattle.definitions.specs.Lists.{joined}
use Rattle.definitions.specs.Bytes.{min_text, lf, cr}
use Rattle.definitions.specs.Row.{Term, Kind, at_least, at_most, equal, objective, Row, row_of, Line, row}
use Rattle.definitions.specs.Meaning.{sum_of, holds, value_of}
use Rattle.definitions.specs.Normal.{shifted}
use Rattle.definitions.specs.Write.{flipped_by, flipped, plain_term, fall, unnegated, printed, apart, closed, remark_text}
use Rattle.definitions.specs.Write.{is_zero, offset_text, text_by, row_text, Item, say, line, item_text}
use Rattle.definitions.specs.Back.{Paired, none, next, rows_asked, rows_in, is_goal, Means, without_cr, Back, remark, constraint}
use Rattle.definitions.specs.Back.{goal, goal_and_offset}
use Rattle.definitions.specs.declared.Mode.{Mode}
use Rattle.definitions.proofs.Meanings.{printed-holds, printed-value}
use Rattle.definitions.proofs.KnownTexts.{found_from}
use Rattle.definitions.proofs.Truths.{one_truth}
use Rattle.definitions.proofs.ItemsBack.{goal_text, offset_said, remark_line, lines_by, row_lines, item_lines, offset-whole, lines_from}

-- ---- the text of a comment in the file

pub front-without : (t y : List ℕ) → take (length (without_cr t)) (t ++ y) ≡ without_cr t
unfolding without_cr
front-without [] y = refl
front-without (b ∷ []) y = by (eqb b cr)
  where
    by : (c : Bool) → take (length {A = ℕ} (cond c [] (b ∷ []))) (b ∷ y) ≡ cond c [] (b ∷ [])
    by true = refl
    by false = refl
front-without (b ∷ c ∷ t) y = ap (λ (l : List ℕ). b ∷ l) (front-without (c ∷ t) y)

remark-text : (pre t rest : List ℕ) → take (length (without_cr t)) (drop (length pre + 2) (pre ++ (remark_text t ++ rest))) ≡ without_cr t
unfolding remark_text
remark-text pre t rest =
    rw (drop-append-add pre (remark_text t ++ rest) 2) (rw (append_assoc t (lf ∷ []) rest) (front-without t ((lf ∷ []) ++ rest)))

-- ---- rows

abbrev pub shown_kind : Kind → Kind
shown_kind at_least = at_least
shown_kind at_most = at_least
shown_kind equal = equal
shown_kind objective = objective

pub printed-kind : (no_negated : Bool) (r : Row) → (printed no_negated r).kind ≡ shown_kind r.kind
unfolding printed unnegated flipped
printed-kind no_negated r = by no_negated r.kind
  where
    by : (m : Bool) (k : Kind)
        → (cond m (shifted plain_term fall (flipped_by k r.bound r.terms)) (flipped_by k r.bound r.terms)).kind ≡ shown_kind k
    by true at_least = refl
    by true at_most = refl
    by true equal = refl
    by true objective = refl
    by false at_least = refl
    by false at_most = refl
    by false equal = refl
    by false objective = refl

pub printed-sort : (no_negated : Bool) (r : Row) → is_goal (printed no_negated r).kind ≡ is_goal r.kind
printed-sort no_negated r = ap is_goal (printed-kind no_negated r) ∙ by r.kind
  where
    by : (k : Kind) → is_goal (shown_kind k) ≡ is_goal k
    by at_least = refl
    by at_most = refl
    by equal = refl
    by objective = refl

is-goal : (k : Kind) → is_goal k ≡ true → k ≡ objective
is-goal at_least e = absurd (one_truth false e refl)
is-goal at_most e = absurd (one_truth false e refl)
is-goal equal e = absurd (one_truth false e refl)
is-goal objective e = refl

zero_is : (z : ℤ) → is_zero z ≡ true → z ≡ pos 0
zero_is (pos zero) e = refl
zero_is (pos (suc n)) e = absurd (one_truth false e refl)
zero_is (negsuc n) e = absurd (one_truth false e refl)

zero-is-not : (z : ℤ) → is_zero z ≡ false → z ≡ pos 0 → ⊥
zero-is-not z e q = one_truth (is_zero z) (ap is_zero q) e

module _ (m : Mode) (r : Row) where
  abbrev shown : Row
  shown = printed m.plain r

  -- a constraint comes back as it was printed
  constraint-means : (k : Kind) → shown.kind ≡ k → is_goal k ≡ false → Means m r (row_of k shown.bound shown.terms)
  constraint-means k e n =
      let same : row_of k shown.bound shown.terms ≡ shown = ap (λ (x : Kind). row_of x shown.bound shown.terms) (sym e) in
      record {
        sort = ap is_goal (sym e) ∙ printed-sort m.plain r;
        holding = λ a. ap (holds a) same ∙ printed-holds m.plain a r;
        value = λ a g. absurd (one_truth (is_goal r.kind) (ap is_goal g) (sym (printed-sort m.plain r) ∙ ap is_goal e ∙ n));
      }

  -- an objective without its offset
  goal-means : shown.kind ≡ objective → Means m r (row_of objective (pos 0) shown.terms)
  unfolding holds value_of
  goal-means e =
      let q : r.kind ≡ objective = is-goal r.kind (sym (printed-sort m.plain r) ∙ ap is_goal e) in
      record {
        sort = ap is_goal (sym q);
        holding = λ a. rw q;
        value = λ a g. ap (λ (z : ℤ). z +ℤ shown.bound) (+ℤ_idr (sum_of a shown.terms)) ∙ printed-value m.plain a r g;
      }

  -- the offset's line, behind the text of the objective
  offset-text : (pre rest : List ℕ) (z : ℤ) (ts : List Term)
      → take (length (without_cr (offset_said z)))
      (drop (length pre + length (goal_text m.first ts) + 2)
      (pre ++ ((min_text ++ (joined (apart m.first) ts ++ (closed ++ remark_text (offset_said z)))) ++ rest)))
      ≡ offset_said z
  offset-text pre rest z ts =
      let g = goal_text m.first ts in
      let n : length pre + length g ≡ length (pre ++ g) = sym (length-append pre g) in
      let same : pre ++ ((min_text ++ (joined (apart m.first) ts ++ (closed ++ remark_text (offset_said z)))) ++ rest)
      ≡ (pre ++ g) ++ (remark_text (offset_said z) ++ rest) =
      simp append_assoc in
      rw (n, same) (remark-text (pre ++ g) (offset_said z) rest ∙ offset-whole z)

  back-goal : (pre rest : List ℕ) → shown.kind ≡ objective
      → Back m (pre ++ (text_by objective m.first shown.bound shown.terms ++ rest)) (line r)
      (lines_by objective m.first (length pre) shown.bound shown.terms)
  unfolding offset_text
  back-goal pre rest e = by (is_zero shown.bound) refl
    where
      is : is_goal r.kind ≡ true
      is = sym (printed-sort m.plain r) ∙ ap is_goal e

      by : (n : Bool) → is_zero shown.bound ≡ n
          → Back m (pre ++ ((min_text
          ++ (joined (apart m.first) shown.terms ++ (closed ++ cond n [] (remark_text (offset_said shown.bound))))) ++ rest))
          (line r)
          (row (row_of objective (pos 0) shown.terms)
          ∷ cond n [] (remark_line (length pre + length (goal_text m.first shown.terms)) (offset_said shown.bound) ∷ []))
      by true q = goal is (goal-means e) (zero_is shown.bound q)
      by false q = goal_and_offset is (goal-means e) (zero-is-not shown.bound q) (offset-text pre rest shown.bound shown.terms)

  back-row : (pre rest : List ℕ) → Back m (pre ++ (row_text m.first shown ++ rest)) (line r) (row_lines m.first (length pre) shown)
  unfolding row_text
  back-row pre rest = by shown.kind refl
    where
      plain : (k : Kind) → shown.kind ≡ k → is_goal k ≡ false → is_goal r.kind ≡ false
      plain k e n = sym (printed-sort m.plain r) ∙ ap is_goal e ∙ n

      by : (k : Kind) → shown.kind ≡ k
          → Back m (pre ++ (text_by k m.first shown.bound shown.terms ++ rest)) (line r)
          (lines_by k m.first (length pre) shown.bound shown.terms)
      by at_least e = constraint (plain at_least e refl) (constraint-means at_least e refl)
      by at_most e = constraint (plain at_most e refl) (constraint-means at_most e refl)
      by equal e = constraint (plain equal e refl) (constraint-means equal e refl)
      by objective e = back-goal pre rest e

-- ---- all items

module _ (m : Mode) where
  back-item : (pre rest : List ℕ) (i : Item) → Back m (pre ++ (item_text m i ++ rest)) i (item_lines m (length pre) i)
  unfolding item_text
  back-item pre rest (say t) = remark (remark-text pre t rest)
  back-item pre rest (line r) = back-row m r pre rest

  -- the lines of each item
  unfoldable pub groups_from : ℕ → List Item → List (List Line)
  groups_from at [] = []
  groups_from at (i ∷ is) = item_lines m at i ∷ groups_from (at + length (item_text m i)) is

  pub groups-lines : (at : ℕ) (is : List Item) → lines_from m at is ≡ joined (λ (g : List Line). g) (groups_from at is)
  unfolding found_from joined groups_from
  groups-lines at [] = refl
  groups-lines at (i ∷ is) = ap (λ (l : List Line). item_lines m at i ++ l) (groups-lines (at + length (item_text m i)) is)

  back_from : (pre : List ℕ) (at : ℕ) (is : List Item) → at ≡ length pre
      → Paired (Back m (pre ++ joined (item_text m) is)) is (groups_from at is)
  unfolding joined groups_from
  back_from pre at [] e = none
  back_from pre at (i ∷ is) e =
      let n : at + length (item_text m i) ≡ length (pre ++ item_text m i) = omega (arith, length-append pre (item_text m i)) in
      let first : Back m (pre ++ (item_text m i ++ joined (item_text m) is)) i (item_lines m at i) =
      rw e (back-item pre (joined (item_text m) is) i) in
      let later = back_from (pre ++ item_text m i) (at + length (item_text m i)) is n in
      next first (rw (append_assoc pre (item_text m i) (joined (item_text m) is)) at later)

  pub items_back : (is : List Item) (s : List ℕ) → s ≡ joined (item_text m) is → Paired (Back m s) is (groups_from 0 is)
  items_back is s w = rw w (back_from [] 0 is refl)

-- ---- so the rows come back one for one

pub rows_back : (m : Mode) (s : List ℕ) {is : List Item} {gs : List (List Line)} → Paired (Back m s) is gs
    → Paired (Means m) (rows_asked is) (rows_in (joined (λ (g : List Line). g) gs))
unfolding rows_asked rows_in joined
rows_back m s none = none
rows_back m s (next (remark e) p) = rows_back m s p
rows_back m s (next (constraint n w) p) = next w (rows_back m s p)
rows_back m s (next (goal n w z) p) = next w (rows_back m s p)
rows_back m s (next (goal_and_offset n w z e) p) = next w (rows_back m s p)
