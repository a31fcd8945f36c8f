-- Are the document's statements, one after the other, read as it means them? Which lines does a file of the document
-- have?
use Prim.Native.Nat.{ℕ, zero, suc, ◌+◌, ◌-◌, ◌≤◌}
use mathlib.Core.Path.{◌≡◌, refl, sym, ap, ◌∙◌}
use mathlib.Core.Bool.{Bool, true, false, cond, not}
use mathlib.Core.List.{List, [], ◌∷◌, ◌++◌, map, append_assoc, append-nil}
use native.Mathlib.Omega.{arith}
use borrow.Author.Tests.{ne_eqb, eqb-true, eqb-false, not-true}
use lib.Dec.{eqb}
use lib.ListN.{length, take, drop, length-append}
use lib.Seq.{drop-append-add}
use lib.IntN.{ℤ, pos, +ℤ_idr}
use Rattle.definitions.specs.Lists.{joined, AllOf}
use Rattle.definitions.specs.Limits.{weight_limit, in_i64}
use Rattle.definitions.specs.Bytes.{bytes, min_text, is_at, blanks, lf, space, star}
use Rattle.definitions.specs.Walk.{item, items, all}
use Rattle.definitions.specs.Number.{leading}
use Rattle.definitions.specs.Row.{row_of, Line, comment, row, sizes}
use Rattle.definitions.specs.declared.Kind.TheVariants.{Objective as objective}
use Rattle.definitions.specs.Text.{begins_term, operator, ending, comparison_of, comparison, kind_of, bound_of, constraint, goal}
use Rattle.definitions.specs.Text.{space_after, statement, in_file}
use Rattle.definitions.specs.File.{statements}
use Rattle.definitions.specs.Meaning.{sum_of, holds_by, holds, value_of}
use Rattle.definitions.specs.Write.{one_line}
use Rattle.definitions.specs.Back.{Paired, none, next, is_goal, without_cr}
use Rattle.document.specs.Document as D
use Rattle.document.specs.DocumentRead.{from_one, SumWithin, StatementWithin, WithinLimits, by_index, without_space, Says}
use Rattle.document.specs.DocumentRead as Read
use Rattle.definitions.specs.declared.OpbOperator.{OpbOperator}
use Rattle.definitions.specs.declared.OpbOperator.TheVariants.{GE, EQ}
use Rattle.definitions.proofs.Each.{both-parts, left-part, right-part, each-mapped}
use Rattle.definitions.proofs.Truths.{both}
use Rattle.definitions.proofs.Whole.{true-in}
use Rattle.definitions.proofs.Statements.{statement-moves}
use Rattle.definitions.proofs.KnownTexts.{Taken, found_from, taken-one, taken-all, taken-list}
use Rattle.definitions.proofs.Readback.{Reads, begun-no-blank, reads-gap, reads-ending, reads-at-least, reads-equal}
use Rattle.definitions.proofs.RowsBack.{reads-comparison, reads-constraint, reads-goal}
use Rattle.definitions.proofs.StatementsBack.{constraint-statement, goal-statement, comment-statement, space-longer}
use Rattle.definitions.proofs.MeansBack.{front-without}
use Rattle.document.proofs.DocumentTerms.{digit_bytes, spaces-blanks, integer-begins, reads-integer, term_for, Readable}
use Rattle.document.proofs.DocumentTerms.{sum-begins, reads-document-sum, sizes-of, sum-means, readable-sum}

-- ---- what is asked of a statement: of the document, and 01's limits
abbrev pub Fair : ℕ → D.Statement → Type 0
Fair most (D.comment t) = AllOf D.NoLineEnd t
Fair most (D.goal g) = AllOf (D.GoodTerm most) (D.terms_of g.sum) × SumWithin (D.terms_of g.sum)
Fair most (D.constraint c) = D.GoodConstraint most c × (SumWithin (D.terms_of c.sum) × (in_i64 (D.integer_value c.bound) ≡ true))

-- ---- its line at an offset

abbrev operator_for : D.Relation → OpbOperator
operator_for D.at_least = GE
operator_for D.equal = EQ

abbrev pub line_at : ℕ → D.Statement → Line
line_at at (D.comment t) = comment (at + (1 + space_after t)) (length (without_cr t) - space_after t) (pos 0)
line_at at (D.goal g) = row (row_of objective (pos 0) (map term_for (D.terms_of g.sum)))
line_at at (D.constraint c) = row (row_of (kind_of (operator_for c.relation)) (D.integer_value c.bound) (map term_for (D.terms_of c.sum)))

-- ---- comments

no-lf : (t : List ℕ) → AllOf D.NoLineEnd t → one_line t ≡ true
unfolding one_line
no-lf [] g = refl
no-lf (b ∷ t) g = rw (ne_eqb b lf g.0) (no-lf t g.1)

space-after : (t rest : List ℕ) → space_after (t ++ (lf ∷ rest)) ≡ space_after t
unfolding is_at
space-after [] rest = refl
space-after (b ∷ t) rest = refl

taken-comment : (t rest : List ℕ) → AllOf D.NoLineEnd t
    → Taken (statement from_one) in_file (D.comment_text t) (λ at. line_at at (D.comment t) ∷ []) rest
unfolding D.comment_text
taken-comment t rest g =
    taken-one (statement from_one) in_file (statement-moves from_one) (star ∷ (t ++ (lf ∷ []))) rest
    (comment (1 + space_after t) (length (without_cr t) - space_after t) (pos 0))
    (comment-statement from_one t rest (no-lf t g)
    ∙ ap (λ (k : ℕ). item (comment (1 + k) (length (without_cr t) - k) (pos 0)) (length (star ∷ (t ++ (lf ∷ []))))) (space-after t rest))

-- ---- constraints

module _ (most : ℕ) where
  abbrev comparison_text : D.Constraint → List ℕ
  comparison_text c = D.relation_text c.relation ++ (D.spaces c.gap ++ (D.integer_text c.bound ++ (D.spaces c.behind ++ D.ended)))

  -- a relation is no blank, and begins no term
  relation-front : (r : D.Relation) (y : List ℕ) → (blanks (D.relation_text r ++ y) ≡ 0) × (begins_term (D.relation_text r ++ y) ≡ false)
  unfolding blanks begins_term
  relation-front D.at_least y = (refl, refl)
  relation-front D.equal y = (refl, refl)

  reads-relation : (r : D.Relation) (rest : List ℕ) → Reads operator (D.relation_text r) rest (operator_for r)
  reads-relation D.at_least rest = reads-at-least rest
  reads-relation D.equal rest = reads-equal rest

  bound-stays : (r : D.Relation) (b : ℤ) → bound_of (operator_for r) b ≡ b
  bound-stays D.at_least b = refl
  bound-stays D.equal b = refl

  behind-bound : (n : ℕ) (rest : List ℕ) → leading ((D.spaces n ++ D.ended) ++ rest) ≡ []
  unfolding D.spaces leading
  behind-bound zero rest = refl
  behind-bound (suc n) rest = refl

  module _ (c : D.Constraint) (rest : List ℕ) (g : Fair most (D.constraint c)) where
    abbrev ts : List D.WeightedTerm
    ts = D.terms_of c.sum

    ends : Reads ending (D.spaces c.behind ++ D.ended) rest true
    unfolding blanks
    ends = reads-ending (D.spaces c.behind) rest (spaces-blanks c.behind (D.ended ++ rest) refl)

    reads-document-comparison : Reads comparison (comparison_text c) rest
        (comparison_of (operator_for c.relation) (D.integer_value c.bound) true)
    reads-document-comparison =
        let n = D.integer_text c.bound in
        let e = D.spaces c.behind ++ D.ended in
        let clear : blanks ((n ++ e) ++ rest) ≡ 0 = rw append_assoc (begun-no-blank _ (integer-begins c.bound _ g.0.bound)) in
        reads-comparison (D.relation_text c.relation) (D.spaces c.gap) n e (reads-relation c.relation _)
        (reads-gap (D.spaces c.gap) ((n ++ e) ++ rest) (spaces-blanks c.gap ((n ++ e) ++ rest) clear))
        (reads-integer c.bound (e ++ rest) g.0.bound g.1.1 (behind-bound c.behind rest)) ends

    constraint-terms : AllOf (Readable most) ts
    constraint-terms = readable-sum most ts g.0.terms g.1.0.indexes g.1.0.weights

    taken-constraint : Taken (statement from_one) in_file (D.constraint_text c) (λ at. line_at at (D.constraint c) ∷ []) rest
    unfolding D.constraint_text
    taken-constraint =
        let x = D.sum_text ts in
        let y = comparison_text c in
        let p = operator_for c.relation in
        let b = D.integer_value c.bound in
        let front = relation-front c.relation
        ((D.spaces c.gap ++ (D.integer_text c.bound ++ (D.spaces c.behind ++ D.ended))) ++ rest) in
        let r = row_of (kind_of p) b (map term_for ts) in
        let small : sizes (map term_for ts) ≤ weight_limit = rw (sizes-of most ts) g.1.0.weights in
        let reads : Reads (constraint from_one) (x ++ y) rest r =
        rw (bound-stays c.relation b) at
        (reads-constraint from_one x y
        (reads-document-sum most ts (y ++ rest) constraint-terms (rw append_assoc front.0)
        (rw append_assoc front.1)) reads-document-comparison small
        (rw (bound-stays c.relation b) (true-in b g.1.1))) in
        taken-one (statement from_one) in_file (statement-moves from_one) (x ++ y) rest (row r)
        (constraint-statement from_one (x ++ y) rest r (sum-begins most c.sum.first c.sum.others y rest constraint-terms.0) reads)

  -- ---- objectives

  module _ (o : D.Objective) (rest : List ℕ) (g : Fair most (D.goal o)) where
    abbrev goal_terms : List D.WeightedTerm
    goal_terms = D.terms_of o.sum

    goal-terms : AllOf (Readable most) goal_terms
    goal-terms = readable-sum most goal_terms g.0 g.1.indexes g.1.weights

    taken-goal : Taken (statement from_one) in_file (D.objective_text o) (λ at. line_at at (D.goal o) ∷ []) rest
    unfolding D.objective_text blanks begins_term
    taken-goal =
        let x = D.sum_text goal_terms in
        let r = row_of objective (pos 0) (map term_for goal_terms) in
        let small : sizes (map term_for goal_terms) ≤ weight_limit = rw (sizes-of most goal_terms) g.1.weights in
        let clear = spaces-blanks o.gap ((x ++ D.ended) ++ rest)
        (begun-no-blank ((x ++ D.ended) ++ rest) (sum-begins most o.sum.first o.sum.others D.ended rest goal-terms.0)) in
        let reads : Reads (goal from_one) ((min_text ++ D.spaces o.gap) ++ (x ++ D.ended)) rest r =
        reads-goal from_one (D.spaces o.gap) x D.ended clear
        (reads-document-sum most goal_terms (D.ended ++ rest) goal-terms refl refl) (reads-ending [] rest refl) small in
        taken-one (statement from_one) in_file (statement-moves from_one) ((min_text ++ D.spaces o.gap) ++ (x ++ D.ended)) rest (row r)
        (goal-statement from_one (bytes "in:" ++ (D.spaces o.gap ++ (x ++ D.ended))) rest r reads)

  -- ---- all statements, one after the other

  taken-statement : (x : D.Statement) (rest : List ℕ) → Fair most x
      → Taken (statement from_one) in_file (D.statement_text x) (λ at. line_at at x ∷ []) rest
  unfolding D.statement_text
  taken-statement (D.comment t) rest g = taken-comment t rest g
  taken-statement (D.goal o) rest g = taken-goal o rest g
  taken-statement (D.constraint c) rest g = taken-constraint c rest g

-- the line of each, at its offset
unfoldable pub lines_from : ℕ → List D.Statement → List Line
lines_from at [] = []
lines_from at (x ∷ xs) = line_at at x ∷ lines_from (at + length (D.statement_text x)) xs

one : ℕ → D.Statement → List Line
one at x = line_at at x ∷ []

found-lines : (at : ℕ) (xs : List D.Statement) → found_from D.statement_text one at xs ≡ lines_from at xs
unfolding found_from lines_from one
found-lines at [] = refl
found-lines at (x ∷ xs) = ap (λ (l : List Line). line_at at x ∷ l) (found-lines (at + length (D.statement_text x)) xs)

pub document-statements : (most : ℕ) (xs : List D.Statement) → AllOf (Fair most) xs
    → statements from_one (D.statements_text xs) ≡ items (lines_from 0 xs) (length (D.statements_text xs))
unfolding statements one
document-statements most xs g =
    ap (all (statement from_one) in_file) (sym (append-nil (D.statements_text xs)))
    ∙ taken-all (statement from_one) in_file (statement-moves from_one) (D.statements_text xs) [] (λ at. found_from D.statement_text one at xs)
    (taken-list (statement from_one) in_file (statement-moves from_one) D.statement_text one (Fair most) (λ s. Unit {0})
    (λ x rest q u. taken-statement most x rest q) (λ x rest q u. tt) xs [] g tt)
    (statement-moves from_one).none
    ∙ ap (λ (l : List Line). items l (length (D.statements_text xs))) (found-lines 0 xs)

-- ---- what they say

comment-text : (pre t rest : List ℕ)
    → take (length (without_cr t) - space_after t) (drop (length pre + (1 + space_after t)) (pre ++ (D.comment_text t ++ rest)))
    ≡ without_cr (without_space t)
unfolding D.comment_text
comment-text pre t rest = rw (drop-append-add pre (D.comment_text t ++ rest) (1 + space_after t)) (by t)
  where
    spaced : (b : ℕ) (t : List ℕ) → b ≡ space → take (length (without_cr (b ∷ t)) - 1) ((t ++ (lf ∷ [])) ++ rest) ≡ without_cr t
    spaced b t e = rw (e, space-longer t, append_assoc t (lf ∷ []) rest) (front-without t ((lf ∷ []) ++ rest))

    split : (b : ℕ) (t : List ℕ) (q : Bool) → eqb b space ≡ q
        → take (length (without_cr (b ∷ t)) - cond q 1 0) (drop (1 + cond q 1 0) (star ∷ b ∷ ((t ++ (lf ∷ [])) ++ rest)))
        ≡ without_cr (cond q t (b ∷ t))
    split b t true e = spaced b t (eqb-true b space e)
    split b t false e =
        let n : length (without_cr (b ∷ t)) - 0 ≡ length (without_cr (b ∷ t)) = omega arith in
        rw (n, append_assoc t (lf ∷ []) rest) (front-without (b ∷ t) ((lf ∷ []) ++ rest))

    by : (t : List ℕ)
        → take (length (without_cr t) - space_after t) (drop (1 + space_after t) ((star ∷ (t ++ (lf ∷ []))) ++ rest))
        ≡ without_cr (without_space t)
    by [] = unfold without_cr is_at in refl
    by (b ∷ t) = unfold is_at in split b t (eqb b space) refl

module _ (most : ℕ) where
  goal-says : (o : D.Objective) → Fair most (D.goal o) → (b : ℕ → Bool)
      → value_of (by_index b) (row_of objective (pos 0) (map term_for (D.terms_of o.sum))) ≡ D.objective_value b o
  unfolding value_of D.objective_value
  goal-says o g b =
      +ℤ_idr (sum_of (by_index b) (map term_for (D.terms_of o.sum))) ∙ sum-means most b (D.terms_of o.sum) (goal-terms most o [] g)

  constraint-says : (c : D.Constraint) → Fair most (D.constraint c) → (b : ℕ → Bool)
      → holds (by_index b) (row_of (kind_of (operator_for c.relation)) (D.integer_value c.bound) (map term_for (D.terms_of c.sum)))
      ≡ D.satisfied b c
  unfolding holds D.satisfied
  constraint-says c g b = rw (sum-means most b (D.terms_of c.sum) (constraint-terms most c [] g)) (by c.relation)
    where
      by : (r : D.Relation)
          → holds_by (kind_of (operator_for r)) (D.sum_value b (D.terms_of c.sum)) (D.integer_value c.bound)
          ≡ D.compared r (D.sum_value b (D.terms_of c.sum)) (D.integer_value c.bound)
      by D.at_least = refl
      by D.equal = refl

  no-goal : (r : D.Relation) → is_goal (kind_of (operator_for r)) ≡ false
  no-goal D.at_least = refl
  no-goal D.equal = refl

  says : (pre rest : List ℕ) (x : D.Statement) → Fair most x → Says (pre ++ (D.statement_text x ++ rest)) x (line_at (length pre) x)
  unfolding D.statement_text
  says pre rest (D.comment t) g = Read.remark (comment-text pre t rest)
  says pre rest (D.goal o) g = Read.goal refl (goal-says o g)
  says pre rest (D.constraint c) g = Read.constraint (no-goal c.relation) (constraint-says c g)

  says-from : (pre : List ℕ) (at : ℕ) (xs : List D.Statement) → at ≡ length pre → AllOf (Fair most) xs
      → Paired (Says (pre ++ D.statements_text xs)) xs (lines_from at xs)
  unfolding joined lines_from
  says-from pre at [] e g = none
  says-from pre at (x ∷ xs) e g =
      let n : at + length (D.statement_text x) ≡ length (pre ++ D.statement_text x) = omega (arith, length-append pre (D.statement_text x)) in
      let first : Says (pre ++ (D.statement_text x ++ D.statements_text xs)) x (line_at at x) =
      rw e (says pre (D.statements_text xs) x g.0) in
      let later = says-from (pre ++ D.statement_text x) (at + length (D.statement_text x)) xs n g.1 in
      next first (rw (append_assoc pre (D.statement_text x) (D.statements_text xs)) at later)

  pub statements-say : (xs : List D.Statement) → AllOf (Fair most) xs → Paired (Says (D.statements_text xs)) xs (lines_from 0 xs)
  statements-say xs g = says-from [] 0 xs refl g

-- ---- a well-formed file within the limits has such statements

pub lf-free : (t : List ℕ) → one_line t ≡ true → AllOf D.NoLineEnd t
unfolding one_line
lf-free [] e = tt
lf-free (b ∷ t) e =
    let h = both (not (eqb b lf)) (one_line t) e in
    (eqb-false b lf (not-true (eqb b lf) h.0), lf-free t h.1)

pub digits-free : (ds : List ℕ) → AllOf D.NoLineEnd (digit_bytes ds)
digits-free [] = tt
digits-free (d ∷ ds) = ((λ q. omega arith), digits-free ds)

integer-free : (z : D.Integer) → AllOf D.NoLineEnd (D.integer_text z)
unfolding D.integer_text one_line
integer-free z =
    both-parts D.NoLineEnd (D.sign_text z.sign) (digit_bytes (z.first ∷ z.others)) (by z.sign) (digits-free (z.first ∷ z.others))
  where
    by : (s : D.Sign) → AllOf D.NoLineEnd (D.sign_text s)
    by D.unsigned = tt
    by D.plus = lf-free (bytes "+") refl
    by D.minus = lf-free (bytes "-") refl

pub header-free : (f : D.File) → AllOf D.NoLineEnd (D.header_of f)
unfolding D.header_of one_line
header-free f =
    let n = D.integer_text f.variables in
    let m = D.integer_text f.constraints in
    both-parts D.NoLineEnd D.variable_words (n ++ (D.constraint_words ++ m)) (lf-free D.variable_words refl)
    (both-parts D.NoLineEnd n (D.constraint_words ++ m) (integer-free f.variables)
    (both-parts D.NoLineEnd D.constraint_words m (lf-free D.constraint_words refl) (integer-free f.constraints)))

-- the greatest number of a variable
abbrev pub most_of : D.File → ℕ
most_of f = D.unsigned_value f.variables

module _ (most : ℕ) where
  fair-goals : (os : List D.Objective) → AllOf (λ o. AllOf (D.GoodTerm most) (D.terms_of o.sum)) os
      → AllOf StatementWithin (map D.goal os) → AllOf (Fair most) (map D.goal os)
  fair-goals [] g h = tt
  fair-goals (o ∷ os) g h = ((g.0, h.0), fair-goals os g.1 h.1)

  fair-body : (xs : List D.Statement) → AllOf (D.GoodStatement most) xs → AllOf StatementWithin xs → AllOf (Fair most) xs
  fair-body [] g h = tt
  fair-body (D.comment t ∷ xs) g h = (g.0, fair-body xs g.1 h.1)
  fair-body (D.goal o ∷ xs) g h = absurd g.0
  fair-body (D.constraint c ∷ xs) g h = ((g.0, h.0), fair-body xs g.1 h.1)

-- what holds of the header, the comments, the objective and what stands behind it, holds of each statement of a file
pub all-statements : (P : D.Statement → Type 0) (f : D.File) → P (D.comment (D.header_of f)) → AllOf P (map D.comment f.comments)
    → AllOf P (map D.goal f.objective) → AllOf P f.body → AllOf P (D.statements_of f)
unfolding D.statements_of
all-statements P f h c g b = (
  h,
  both-parts P (map D.comment f.comments) (map D.goal f.objective ++ f.body) c
      (both-parts P (map D.goal f.objective) f.body g b),
)

pub fair-file : (f : D.File) → D.WellFormed f → WithinLimits f → AllOf (Fair (most_of f)) (D.statements_of f)
unfolding D.statements_of
fair-file f w l =
    let os = map D.goal f.objective in
    let within = right-part StatementWithin (map D.comment f.comments) (os ++ f.body) l.statements.1 in
    all-statements (Fair (most_of f)) f (header-free f)
    (each-mapped (Fair (most_of f)) D.comment f.comments w.comments)
    (fair-goals (most_of f) f.objective w.objective (left-part StatementWithin os f.body within))
    (fair-body (most_of f) f.body w.body (right-part StatementWithin os f.body within))
