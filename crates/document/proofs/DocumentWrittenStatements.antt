-- Are the lines that are written for the document its statements? Constraints, comments and the line of an offset are,
-- word for word; an objective's line lacks one space.
use Prim.Native.Nat.{ℕ, suc, ◌+◌, ◌≤◌}
use mathlib.Core.Path.{◌≡◌, refl, sym, ap, ap₂, ◌∙◌}
use mathlib.Core.Bool.{Bool, true, false}
use mathlib.Core.List.{List, [], ◌∷◌, ◌++◌, map, append_assoc}
use native.Mathlib.Omega.{arith}
use borrow.Author.Tests.{leb-true}
use lib.ListN.{length}
use lib.IntN.{ℤ, ◌+ℤ◌}
use Rattle.definitions.specs.Lists.{joined, AllOf}
use Rattle.definitions.specs.Bytes.{min_text, space}
use Rattle.definitions.specs.Number.{integer_text}
use Rattle.definitions.specs.Literal.{index_of}
use Rattle.definitions.specs.Row.{Term, Row, row_of}
use Rattle.definitions.specs.declared.Kind.{Kind}
use Rattle.definitions.specs.declared.Kind.TheVariants.{AtLeast as at_least, AtMost as at_most, Equal as equal, Objective as objective}
use Rattle.definitions.specs.Meaning.{sum_of, holds_by, holds, value_of}
use Rattle.definitions.specs.Write.{flip_term, flipped_by, flipped, plain_term, unnegated, printed, term_text, spaced, apart}
use Rattle.definitions.specs.Write.{closed, remark_text, is_zero, offset_text, comparison_text, text_by, row_text, Item, say, line}
use Rattle.definitions.specs.Write.{item_text, has_terms, one_line}
use Rattle.definitions.specs.Back.{options_of, Paired, none, next, rows_asked, is_goal, offset_of}
use Rattle.document.specs.Document as D
use Rattle.document.specs.DocumentRead.{by_index}
use Rattle.document.specs.DocumentWritten.{for_document, constraints_asked, UpTo, GoalWithTerms, NoGoal, constraints_in}
use Rattle.document.specs.DocumentWritten.{SatisfiedAlike, ValuedAlike}
use Rattle.definitions.proofs.CountsBack.{printed-terms}
use Rattle.definitions.proofs.Truths.{one_truth}
use Rattle.definitions.proofs.Meanings.{opposite-half, plain-half, printed-holds, printed-value, plain-not-negated}
use Rattle.definitions.proofs.Accepted.{GoodRow, WritableItem, printed-good}
use Rattle.definitions.proofs.ItemsBack.{offset_said, offset-line}
use Rattle.definitions.proofs.MeansBack.{shown_kind, printed-kind}
use Rattle.document.proofs.DocumentStatements.{lf-free}
use Rattle.document.proofs.DocumentWrittenTerms.{integer_for, integer-text, integer-good, integer-worth, Plain, tree_of}
use Rattle.document.proofs.DocumentWrittenTerms.{sum-text, sum-good, sum-means}

-- ---- the printed row has plain variables, and those of the row asked for

abbrev NumberUpTo : ℕ → Term → Type 0
NumberUpTo most t = index_of t.code + 1 ≤ most

module _ (most : ℕ) where
  flipped-up-to : (ts : List Term) → AllOf (NumberUpTo most) ts → AllOf (NumberUpTo most) (map flip_term ts)
  unfolding flip_term
  flipped-up-to [] g = tt
  flipped-up-to (t ∷ ts) g = (rw (opposite-half t.code) g.0, flipped-up-to ts g.1)

  plain-up-to : (ts : List Term) → AllOf (NumberUpTo most) ts → AllOf (Plain most) (map plain_term ts)
  unfolding plain_term
  plain-up-to [] g = tt
  plain-up-to (t ∷ ts) g =
      (record { plain = plain-not-negated t.code; within = rw (plain-half t.code) g.0 }, plain-up-to ts g.1)

  pub printed-plain : (r : Row) → UpTo most r → AllOf (Plain most) (printed true r).terms
  unfolding printed unnegated flipped
  printed-plain r g = plain-up-to (flipped_by r.kind r.bound r.terms).terms (by r.kind)
    where
      by : (k : Kind) → AllOf (NumberUpTo most) (flipped_by k r.bound r.terms).terms
      by at_least = g
      by at_most = flipped-up-to r.terms g
      by equal = g
      by objective = g

-- ---- comments

pub remark-text : (t : List ℕ) → D.comment_text (space ∷ t) ≡ remark_text t
unfolding D.comment_text remark_text
remark-text t = refl

pub no-line-end : (t : List ℕ) → one_line t ≡ true → AllOf D.NoLineEnd (space ∷ t)
no-line-end t e = ((λ q. omega arith), lf-free t e)

-- ---- spaces between terms

-- a space before each term and one at the end are one before them all and one behind each
spaces-moved : (first : ℕ) (ts : List Term) (y : List ℕ) → joined (apart first) ts ++ (space ∷ y) ≡ space ∷ (joined (spaced first) ts ++ y)
unfolding joined apart spaced
spaces-moved first [] y = refl
spaces-moved first (t ∷ ts) y =
    let x = term_text first t in
    let after : (x ++ (space ∷ [])) ++ joined (spaced first) ts ++ y ≡ x ++ (space ∷ (joined (spaced first) ts ++ y)) =
    append_assoc (x ++ (space ∷ [])) (joined (spaced first) ts) y ∙ append_assoc x (space ∷ []) (joined (spaced first) ts ++ y) in
    ap (λ (l : List ℕ). space ∷ l)
    (append_assoc x (joined (apart first) ts) (space ∷ y) ∙ ap (λ (l : List ℕ). x ++ l) (spaces-moved first ts y) ∙ sym after)

-- ---- constraints

abbrev kind_for : D.Relation → Kind
kind_for D.at_least = at_least
kind_for D.equal = equal

constraint_for : D.Relation → ℤ → Term → List Term → D.Constraint
constraint_for k b t ts = record {
  sum = record { first = tree_of t; others = map tree_of ts };
  relation = k;
  gap = 1;
  bound = integer_for b;
  behind = 0;
}

-- the constraint that the row r is
record Told (most : ℕ) (r : Row) : Type 0 where
  tree : D.Constraint
  good : D.GoodConstraint most tree
  text : D.constraint_text tree ≡ row_text 1 r
  means : SatisfiedAlike r tree

module _ (most : ℕ) where
  told-terms : (k : D.Relation) (b : ℤ) (t : Term) (ts : List Term) → AllOf (Plain most) (t ∷ ts) → Told most (row_of (kind_for k) b (t ∷ ts))
  unfolding constraint_for D.constraint_text D.spaces D.satisfied row_text comparison_text holds
  told-terms k b t ts g = record {
    tree = constraint_for k b t ts;
    good = record { terms = sum-good most (t ∷ ts) g; bound = integer-good b };
    text = rw (sum-text most (t ∷ ts) g, integer-text b) (said k);
    means = λ a. rw (sum-means most (t ∷ ts) g a, integer-worth b) (alike k a);
  }
    where
      said : (k : D.Relation)
          → joined (spaced 1) (t ∷ ts) ++ (D.relation_text k ++ (D.spaces 1 ++ (integer_text b ++ (D.spaces 0 ++ D.ended))))
          ≡ text_by (kind_for k) 1 b (t ∷ ts)
      said D.at_least = refl
      said D.equal = refl

      alike : (k : D.Relation) (a : ℕ → Bool)
          → D.compared k (sum_of (by_index a) (t ∷ ts)) b ≡ holds_by (kind_for k) (sum_of (by_index a) (t ∷ ts)) b
      alike D.at_least a = refl
      alike D.equal a = refl

  told-some : (k : D.Relation) (b : ℤ) (ts : List Term) → 1 ≤ length ts → AllOf (Plain most) ts → Told most (row_of (kind_for k) b ts)
  told-some k b [] h g = absurd (omega arith)
  told-some k b (t ∷ ts) h g = told-terms k b t ts g

  -- a constraint as it is printed: at least or equal
  told-row : (r : Row) → is_goal r.kind ≡ false → GoodRow (options_of for_document) (printed true r) → UpTo most r
      → Told most (printed true r)
  told-row r n w g = by r.kind refl n
    where
      ts : List Term
      ts = (printed true r).terms

      some : (k : D.Relation) → has_terms (kind_for k) ts ≡ true → 1 ≤ length ts
      some D.at_least h = leb-true 1 (length ts) h
      some D.equal h = leb-true 1 (length ts) h

      at : (k : D.Relation) → (printed true r).kind ≡ kind_for k → Told most (printed true r)
      at k e =
          let h : has_terms (kind_for k) ts ≡ true = rw e at w.some in
          rw (ap (λ (x : Kind). row_of x (printed true r).bound ts) (sym e)) at
          (told-some k (printed true r).bound ts (some k h) (printed-plain most r g))

      by : (k : Kind) → r.kind ≡ k → is_goal k ≡ false → Told most (printed true r)
      by at_least e h = at D.at_least (printed-kind true r ∙ ap shown_kind e)
      by at_most e h = at D.at_least (printed-kind true r ∙ ap shown_kind e)
      by equal e h = at D.equal (printed-kind true r ∙ ap shown_kind e)
      by objective e h = absurd (one_truth true refl h)

  -- ---- comments and constraints, one after the other

  -- the statements that the items are
  pub record Statements (is : List Item) : Type 0 where
    pub statements : List D.Statement
    pub good : AllOf (D.GoodStatement most) statements
    pub text : D.statements_text statements ≡ joined (item_text for_document) is
    pub count : D.constraint_count statements ≡ length (constraints_asked is)
    pub means : Paired SatisfiedAlike (constraints_asked is) (constraints_in statements)

  pub body_of : (is : List Item) → AllOf (WritableItem for_document) is → AllOf NoGoal is → AllOf (UpTo most) (rows_asked is) → Statements is
  unfolding joined rows_asked constraints_asked constraints_in D.constraint_count D.statement_text item_text
  body_of [] w n g = record { statements = []; good = tt; text = refl; count = refl; means = none }
  body_of (say t ∷ is) w n g =
      let q = body_of is w.1 n.1 g in
      record {
        statements = D.comment (space ∷ t) ∷ q.statements;
        good = (no-line-end t w.0, q.good);
        text = ap₂ (λ (x y : List ℕ). x ++ y) (remark-text t) q.text;
        count = q.count;
        means = q.means;
      }
  body_of (line r ∷ is) w n g =
      let q = body_of is w.1 n.1 g.1 in
      let c = told-row r n.0 (printed-good for_document r w.0) g.0 in
      record {
        statements = D.constraint c.tree ∷ q.statements;
        good = (c.good, q.good);
        text = ap₂ (λ (x y : List ℕ). x ++ y) c.text q.text;
        count = rw n.0 (ap suc q.count);
        means = rw n.0 (next (λ b. c.means b ∙ printed-holds true (by_index b) r) q.means);
      }

  -- ---- an objective, and the line of its offset

  -- the objective that the row r is, without its offset; its text has a space before the `;`
  pub record Aimed (r : Row) : Type 0 where
    pub tree : D.Objective
    pub good : AllOf (D.GoodTerm most) (D.terms_of tree.sum)
    pub text : D.objective_text tree ≡ min_text ++ (joined (apart 1) r.terms ++ (space ∷ closed))
    pub means : (b : ℕ → Bool) → D.objective_value b tree ≡ sum_of (by_index b) r.terms

  aimed-terms : (k : Kind) (b : ℤ) (ts : List Term) → 1 ≤ length ts → AllOf (Plain most) ts → Aimed (row_of k b ts)
  unfolding D.objective_text D.spaces D.objective_value
  aimed-terms k b [] h g = absurd (omega arith)
  aimed-terms k b (t ∷ ts) h g = record {
    tree = record { gap = 1; sum = record { first = tree_of t; others = map tree_of ts } };
    good = sum-good most (t ∷ ts) g;
    text = rw (sum-text most (t ∷ ts) g) (ap (λ (l : List ℕ). min_text ++ l) (sym (spaces-moved 1 (t ∷ ts) closed)));
    means = sum-means most (t ∷ ts) g;
  }

  pub aimed-row : (r : Row) → GoalWithTerms r → UpTo most r → Aimed (printed true r)
  aimed-row r k g =
      aimed-terms (printed true r).kind (printed true r).bound (printed true r).terms (rw (printed-terms true r) k.some)
      (printed-plain most r g)

  pub aimed-value : (r : Row) (a : Aimed (printed true r)) → GoalWithTerms r → ValuedAlike r a.tree
  unfolding value_of
  aimed-value r a k b = ap (λ (z : ℤ). z +ℤ offset_of for_document r) (a.means b) ∙ printed-value true (by_index b) r k.kind

  -- the comment that says an offset, and what stands behind
  pub record WithOffset (z : ℤ) (xs : List D.Statement) : Type 0 where
    pub statements : List D.Statement
    pub good : AllOf (D.GoodStatement most) xs → AllOf (D.GoodStatement most) statements
    pub text : D.statements_text statements ≡ offset_text z ++ D.statements_text xs
    pub count : D.constraint_count statements ≡ D.constraint_count xs
    pub same : constraints_in statements ≡ constraints_in xs

  pub with-offset : (z : ℤ) (xs : List D.Statement) → WithOffset z xs
  unfolding offset_text joined constraints_in D.constraint_count D.statement_text
  with-offset z xs = by (is_zero z) refl
    where
      by : (n : Bool) → is_zero z ≡ n → WithOffset z xs
      by true e = record { statements = xs; good = λ g. g; text = rw e; count = refl; same = refl }
      by false e = record {
        statements = D.comment (space ∷ offset_said z) ∷ xs;
        good = λ g. (no-line-end (offset_said z) (offset-line z), g);
        text = rw e (ap (λ (l : List ℕ). l ++ D.statements_text xs) (remark-text (offset_said z)));
        count = refl;
        same = refl;
      }
