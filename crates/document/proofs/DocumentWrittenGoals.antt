-- Has the document the line that is written for an objective? No: before the `;` the document has a space, and the line
-- a digit, or the `:` where it has no terms.
use Prim.Native.Nat.{ℕ, zero, suc, ◌+◌, ◌/◌, ◌%◌, ◌≤◌, ◌<◌}
use mathlib.Core.Path.{◌≡◌, refl, sym, ap, ◌∙◌}
use mathlib.Core.Bool.{Bool, true, false, cond}
use mathlib.Core.List.{List, [], ◌∷◌, ◌++◌, map, append_assoc, append_cancel_right}
use native.Mathlib.Omega.{arith}
use native.Mathlib.Decide.{dec_lt}
use Rattle.definitions.specs.Lists.{joined}
use Rattle.definitions.specs.Bytes.{min_text, space, tilde, letter_x}
use Rattle.definitions.specs.Number.{decimal, integer_text}
use Rattle.definitions.specs.Literal.{index_of, negated}
use Rattle.definitions.specs.Row.{Term}
use Rattle.definitions.specs.Write.{number_text, literal_text, term_text, apart, closed}
use Rattle.document.specs.Document as D
use Rattle.definitions.proofs.Numbers.{decimal-small, decimal-big}

-- the last byte of a text, d where it is empty
last_of : ℕ → List ℕ → ℕ
last_of d [] = d
last_of d (b ∷ s) = last_of b s

last-both : (d : ℕ) (x y : List ℕ) → last_of d (x ++ y) ≡ last_of (last_of d x) y
unfolding last_of
last-both d [] y = refl
last-both d (b ∷ x) y = last-both b x y

-- ---- the document's objective

last-space : (d n : ℕ) → last_of d (D.spaces (suc n)) ≡ space
unfolding last_of D.spaces
last-space d zero = refl
last-space d (suc n) = last-space space n

last-of-term : (d : ℕ) (t : D.WeightedTerm) → last_of d (D.term_text t) ≡ space
unfolding D.term_text last_of
last-of-term d t =
    let v = map D.digit_text (t.first ∷ t.others) in
    last-both d (D.integer_text t.weight) _
    ∙ last-both _ (D.spaces (suc t.gap)) (120 ∷ (v ++ D.spaces (suc t.behind)))
    ∙ last-both 120 v (D.spaces (suc t.behind))
    ∙ last-space _ t.behind

last-of-sum : (ts : List D.WeightedTerm) → last_of space (D.sum_text ts) ≡ space
unfolding last_of joined
last-of-sum [] = refl
last-of-sum (t ∷ ts) = last-both space (D.term_text t) (D.sum_text ts) ∙ rw (last-of-term space t) (last-of-sum ts)

-- all but its end
abbrev goal_front : D.Objective → List ℕ
goal_front g = min_text ++ (D.spaces g.gap ++ D.sum_text (D.terms_of g.sum))

goal-parts : (g : D.Objective) → D.objective_text g ≡ goal_front g ++ D.ended
unfolding D.objective_text
goal-parts g = simp append_assoc

last-of-goal : (g : D.Objective) → last_of 0 (goal_front g) ≡ space
unfolding last_of joined
last-of-goal g =
    let t = g.sum.first in
    let ts = g.sum.others in
    let d = last_of 58 (D.spaces g.gap) in
    last-both 58 (D.spaces g.gap) (D.term_text t ++ D.sum_text ts) ∙ last-both d (D.term_text t) (D.sum_text ts)
    ∙ rw (last-of-term d t) (last-of-sum ts)

-- ---- the line that is written

last-digit : (d n : ℕ) → 48 ≤ last_of d (decimal n)
unfolding last_of
last-digit d n = by (dec_lt n 10)
  where
    by : Dec (n < 10) → 48 ≤ last_of d (decimal n)
    by (yes h) = rw (decimal-small n h) (omega arith)
    by (no h) = rw (decimal-big n (omega arith), last-both d (decimal (n / 10)) ((48 + n % 10) ∷ [])) (omega arith)

last-of-written-term : (first d : ℕ) (t : Term) → 48 ≤ last_of d (apart first t)
unfolding last_of apart term_text
last-of-written-term first d t = rw (last-both space (integer_text t.weight) (space ∷ literal_text first t.code)) literal
  where
    literal : 48 ≤ last_of space (literal_text first t.code)
    literal = unfold literal_text number_text in by (negated t.code)
      where
        by : (n : Bool)
            → 48 ≤ last_of space (cond n (tilde ∷ letter_x ∷ decimal (index_of t.code + first))
            (letter_x ∷ decimal (index_of t.code + first)))
        by true = last-digit letter_x (index_of t.code + first)
        by false = last-digit letter_x (index_of t.code + first)

last-of-written-sum : (first d : ℕ) (ts : List Term) → 48 ≤ d → 48 ≤ last_of d (joined (apart first) ts)
unfolding last_of joined
last-of-written-sum first d [] h = h
last-of-written-sum first d (t ∷ ts) h =
    rw (last-both d (apart first t) (joined (apart first) ts))
    (last-of-written-sum first (last_of d (apart first t)) ts (last-of-written-term first d t))

-- ---- so it is no objective of the document, with or without terms
pub no-such-goal : (first : ℕ) (ts : List Term) (g : D.Objective) → D.objective_text g ≡ min_text ++ (joined (apart first) ts ++ closed) → ⊥
unfolding last_of
no-such-goal first ts g e =
    let x = min_text ++ joined (apart first) ts in
    let same : goal_front g ≡ x =
    append_cancel_right (goal_front g) x closed (sym (goal-parts g) ∙ e ∙ sym (append_assoc min_text (joined (apart first) ts) closed)) in
    let last : last_of 0 x ≡ space = ap (last_of 0) (sym same) ∙ last-of-goal g in
    omega (arith, last-of-written-sum first 58 ts (omega arith))
