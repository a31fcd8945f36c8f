-- Is a written text with an objective in it ever the text of a file of the document? No: each written comment,
-- constraint and objective is one line, as each statement of the document is, so the two go line by line, and no line
-- of the document is that of a written objective.
use Prim.Native.Nat.{ℕ, suc, ◌+◌}
use mathlib.Core.Path.{◌≡◌, refl, sym, ap, subst, ◌∙◌}
use mathlib.Core.Bool.{Bool, true, false, cond}
use mathlib.Core.List.{List, [], ◌∷◌, ◌++◌, append_assoc, head-eq_of_cons-eq}
use native.Mathlib.Omega.{arith}
use lib.IntN.{ℤ, pos, negsuc}
use Rattle.definitions.specs.Lists.{joined, AllOf}
use Rattle.definitions.specs.Bytes.{bytes, min_text, space, tilde, letter_x}
use Rattle.definitions.specs.Number.{decimal, integer_text}
use Rattle.definitions.specs.Literal.{index_of, negated}
use Rattle.definitions.specs.Row.{Term, Row}
use Rattle.definitions.specs.declared.Kind.{Kind}
use Rattle.definitions.specs.declared.Kind.TheVariants.{AtLeast as at_least, AtMost as at_most, Equal as equal, Objective as objective}
use Rattle.definitions.specs.Text.{begins_term}
use Rattle.definitions.specs.Write.{printed, number_text, literal_text, term_text, spaced, apart, closed, remark_text, offset_text}
use Rattle.definitions.specs.Write.{comparison_text, text_by, row_text, Item, say, line, item_text, one_line}
use Rattle.definitions.specs.Back.{is_goal}
use Rattle.document.specs.Document as D
use Rattle.document.specs.DocumentWritten.{NoGoal}
use Rattle.definitions.specs.declared.Mode.{Mode}
use Rattle.definitions.proofs.Truths.{one_truth}
use Rattle.definitions.proofs.Accepted.{WritableItem}
use Rattle.definitions.proofs.ItemsBack.{goal_text}
use Rattle.definitions.proofs.MeansBack.{printed-sort}
use Rattle.document.proofs.DocumentTerms.{integer-begins}
use Rattle.document.proofs.DocumentStatements.{lf-free, digits-free, most_of}
use Rattle.document.proofs.DocumentLines.{Free, OneLine, free-both, line-behind, closed-line, min-free, Shaped}
use Rattle.document.proofs.DocumentLines.{split-line, shaped-file}
use Rattle.document.proofs.DocumentWrittenTerms.{digits_of_lem}
use Rattle.document.proofs.DocumentWrittenGoals.{no-such-goal}

-- ---- what is written

decimal-free : (n : ℕ) → Free (decimal n)
decimal-free n = let q = digits_of_lem n in subst Free q.text (digits-free (q.first ∷ q.others))

number-free : (z : ℤ) → Free (integer_text z)
number-free (pos n) = decimal-free n
number-free (negsuc n) = ((λ q. omega arith), decimal-free (suc n))

term-free : (first : ℕ) (t : Term) → Free (term_text first t)
unfolding term_text literal_text number_text
term-free first t = free-both (integer_text t.weight) _ (number-free t.weight) ((λ q. omega arith), by (negated t.code))
  where
    by : (n : Bool) → Free (cond n (tilde ∷ letter_x ∷ decimal (index_of t.code + first)) (letter_x ∷ decimal (index_of t.code + first)))
    by true = ((λ q. omega arith), ((λ q. omega arith), decimal-free (index_of t.code + first)))
    by false = ((λ q. omega arith), decimal-free (index_of t.code + first))

joined_free : {B : Type 0} (text : B → List ℕ) → ((b : B) → Free (text b)) → (bs : List B) → Free (joined text bs)
unfolding joined
joined_free text f [] = tt
joined_free text f (b ∷ bs) = free-both (text b) (joined text bs) (f b) (joined_free text f bs)

spaced-free : (first : ℕ) (t : Term) → Free (spaced first t)
unfolding spaced
spaced-free first t = free-both (term_text first t) (space ∷ []) (term-free first t) ((λ q. omega arith), tt)

apart-free : (first : ℕ) (t : Term) → Free (apart first t)
unfolding apart
apart-free first t = ((λ q. omega arith), term-free first t)

comparison-line : (x : List ℕ) (b : ℤ) → Free x → OneLine (comparison_text x b)
unfolding comparison_text
comparison-line x b g =
    line-behind x _ g (line-behind (space ∷ []) _ ((λ q. omega arith), tt) (line-behind (integer_text b) closed (number-free b) closed-line))

goal-line : (first : ℕ) (ts : List Term) → OneLine (goal_text first ts)
goal-line first ts =
    line-behind min_text _ min-free
    (line-behind (joined (apart first) ts) closed (joined_free (apart first) (apart-free first) ts) closed-line)

remark-line : (t : List ℕ) → one_line t ≡ true → OneLine (remark_text t)
unfolding remark_text
remark-line t e = record { front = 42 ∷ space ∷ t; whole = refl; free = ((λ q. omega arith), ((λ q. omega arith), lf-free t e)) }

-- a constraint, at any operator
row_line : (first : ℕ) (r : Row) → is_goal r.kind ≡ false → OneLine (row_text first r)
unfolding row_text one_line
row_line first r n = by r.kind n
  where
    sum : List ℕ
    sum = joined (spaced first) r.terms

    compared : (x : List ℕ) → one_line x ≡ true → OneLine (sum ++ comparison_text x r.bound)
    compared x e =
        line-behind sum _ (joined_free (spaced first) (spaced-free first) r.terms) (comparison-line x r.bound (lf-free x e))

    by : (k : Kind) → is_goal k ≡ false → OneLine (text_by k first r.bound r.terms)
    by at_least n = compared (bytes ">=") refl
    by at_most n = compared (bytes "<=") refl
    by equal n = compared (bytes "=") refl
    by objective n = absurd (one_truth true refl n)

-- an objective, and behind it the line of its offset
goal-lines : (first : ℕ) (r : Row) → is_goal r.kind ≡ true → row_text first r ≡ goal_text first r.terms ++ offset_text r.bound
unfolding row_text
goal-lines first r n = by r.kind n
  where
    by : (k : Kind) → is_goal k ≡ true → text_by k first r.bound r.terms ≡ goal_text first r.terms ++ offset_text r.bound
    by at_least n = absurd (one_truth false n refl)
    by at_most n = absurd (one_truth false n refl)
    by equal n = absurd (one_truth false n refl)
    by objective n = simp append_assoc

-- ---- what the document does not have

-- no statement of it is the line of a written objective
no-such-line : (most : ℕ) (x : D.Statement) → Shaped most x → (first : ℕ) (ts : List Term) → D.statement_text x ≡ goal_text first ts → ⊥
unfolding D.statement_text
no-such-line most (D.comment t) g first ts e = let z : ◌≡◌ {A = ℕ} 42 109 = unfold D.comment_text in head-eq_of_cons-eq e in omega arith
no-such-line most (D.goal g) u first ts e = no-such-goal first ts g e
no-such-line most (D.constraint c) g first ts e =
    one_truth (begins_term (goal_text first ts)) (ap begins_term (sym e) ∙ begun) (unfold begins_term in refl)
  where
    begun : begins_term (D.constraint_text c) ≡ true
    begun = unfold D.constraint_text joined D.term_text in simp append_assoc (integer-begins c.sum.first.weight _ g.terms.0.weight)

-- ---- line by line

module _ (most : ℕ) (m : Mode) where
  -- of statements and items
  statements-differ : (is : List Item) (xs : List D.Statement) → AllOf (Shaped most) xs → AllOf (WritableItem m) is
      → (AllOf NoGoal is → ⊥) → D.statements_text xs ≡ joined (item_text m) is → ⊥
  unfolding joined item_text
  statements-differ [] xs g w n e = n tt
  statements-differ (say t ∷ is) xs g w n e =
      let q = split-line most xs (remark_text t) (joined (item_text m) is) g (remark-line t w.0) e in
      statements-differ is q.xs q.others w.1 (λ k. n (tt, k)) q.behind
  statements-differ (line r ∷ is) xs g w n e = by (is_goal r.kind) refl (λ ys h k q. statements-differ is ys h w.1 k q)
    where
      shown : Row
      shown = printed m.plain r

      by : (b : Bool) → is_goal r.kind ≡ b
          → ((ys : List D.Statement) → AllOf (Shaped most) ys → (AllOf NoGoal is → ⊥) → D.statements_text ys ≡ joined (item_text m) is
          → ⊥) → ⊥
      by false q ih =
          let l = split-line most xs (row_text m.first shown) (joined (item_text m) is) g
          (row_line m.first shown (printed-sort m.plain r ∙ q)) e in
          ih l.xs l.others (λ k. n (q, k)) l.behind
      by true q ih =
          let x = goal_text m.first shown.terms in
          let parts = ap (λ (k : List ℕ). k ++ joined (item_text m) is) (goal-lines m.first shown (printed-sort m.plain r ∙ q))
          ∙ append_assoc x (offset_text shown.bound) (joined (item_text m) is) in
          let l = split-line most xs x (offset_text shown.bound ++ joined (item_text m) is) g (goal-line m.first shown.terms)
          (e ∙ parts) in
          no-such-line most l.x l.shaped m.first shown.terms l.text

pub goal-not-in-document : (m : Mode) (is : List Item) → AllOf (WritableItem m) is → (AllOf NoGoal is → ⊥) → (f : D.File)
    → D.WellFormed f → D.file_text f ≡ joined (item_text m) is → ⊥
unfolding D.file_text
goal-not-in-document m is w n f g e = statements-differ (most_of f) m is (D.statements_of f) (shaped-file f g) w n e
