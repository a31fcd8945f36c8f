-- Which file of the document is a list of items in the document's order? Its text, but for the objective's line, is
-- what is written; it is well formed, and means what was asked for.
use Prim.Native.Nat.{ℕ, ◌≤◌}
use mathlib.Core.Path.{◌≡◌, refl, sym, ap, ap₂, subst, ◌∙◌}
use mathlib.Core.Bool.{true}
use mathlib.Core.List.{List, [], ◌∷◌, ◌++◌, map, append_assoc, append-nil}
use native.Mathlib.Omega.{arith}
use lib.ListN.{length}
use Rattle.definitions.specs.Lists.{joined, AllOf}
use Rattle.definitions.specs.Bytes.{min_text, space}
use Rattle.definitions.specs.Row.{Row}
use Rattle.definitions.specs.declared.Kind.{Kind}
use Rattle.definitions.specs.declared.Kind.TheVariants.{Objective as objective}
use Rattle.definitions.specs.Write.{printed, apart, closed, remark_text, offset_text, text_by, row_text, Item, say, line, item_text}
use Rattle.definitions.specs.Back.{rows_asked, offset_of, Paired, none, next}
use Rattle.document.specs.Document as D
use Rattle.document.specs.DocumentWritten.{for_document, constraints_asked, header_said, UpTo, GoalWithTerms, InOrder}
use Rattle.document.specs.DocumentWritten.{before_end, from_end, constraints_in, SatisfiedAlike, WrittenDocument}
use Rattle.definitions.proofs.Truths.{never}
use Rattle.definitions.proofs.Each.{left-part, right-part}
use Rattle.definitions.proofs.Columns.{joined-append}
use Rattle.definitions.proofs.Accepted.{WritableItem}
use Rattle.definitions.proofs.MeansBack.{shown_kind, printed-kind}
use Rattle.document.proofs.DocumentWrittenTerms.{unsigned_for, unsigned-text, unsigned-good, unsigned-worth}
use Rattle.document.proofs.DocumentWrittenStatements.{remark-text, no-line-end, Statements, body_of, Aimed, aimed-row}
use Rattle.document.proofs.DocumentWrittenStatements.{aimed-value, with-offset}

-- ---- the file

abbrev spaced_texts : List (List ℕ) → List (List ℕ)
spaced_texts cs = map (λ (t : List ℕ). space ∷ t) cs

unfoldable pub file_for : ℕ → ℕ → List (List ℕ) → List D.Objective → List D.Statement → D.File
file_for n m cs gs xs = record {
  variables = unsigned_for n;
  constraints = unsigned_for m;
  comments = spaced_texts cs;
  objective = gs;
  body = xs;
}

comments-text : (cs : List (List ℕ)) → D.statements_text (map D.comment (spaced_texts cs)) ≡ joined (item_text for_document) (map say cs)
unfolding joined D.statement_text item_text
comments-text [] = refl
comments-text (t ∷ cs) = ap₂ (λ (x y : List ℕ). x ++ y) (remark-text t) (comments-text cs)

comments-good : (cs : List (List ℕ)) → AllOf (WritableItem for_document) (map say cs) → AllOf (AllOf D.NoLineEnd) (spaced_texts cs)
comments-good [] w = tt
comments-good (t ∷ cs) w = (no-line-end t w.0, comments-good cs w.1)

goals-text : (gs : List D.Objective) → D.statements_text (map D.goal gs) ≡ joined D.objective_text gs
unfolding joined D.statement_text
goals-text [] = refl
goals-text (g ∷ gs) = ap (λ (l : List ℕ). D.objective_text g ++ l) (goals-text gs)

module _ (n m : ℕ) (cs : List (List ℕ)) (gs : List D.Objective) (xs : List D.Statement) where
  header-text : D.comment_text (D.header_of (file_for n m cs gs xs)) ≡ remark_text (header_said n m)
  unfolding D.comment_text D.header_of file_for remark_text header_said
  header-text = rw (unsigned-text n, unsigned-text m)

  pub file-text : D.file_text (file_for n m cs gs xs)
      ≡ joined (item_text for_document) (say (header_said n m) ∷ map say cs) ++ (joined D.objective_text gs ++ D.statements_text xs)
  unfolding D.file_text D.statements_of file_for joined D.statement_text item_text
  file-text =
      let cs' = map D.comment (spaced_texts cs) in
      let gs' = map D.goal gs in
      let behind : D.statements_text (cs' ++ (gs' ++ xs))
      ≡ joined (item_text for_document) (map say cs) ++ (joined D.objective_text gs ++ D.statements_text xs) =
      joined-append D.statement_text cs' (gs' ++ xs)
      ∙ ap₂ (λ (x y : List ℕ). x ++ y) (comments-text cs)
      (joined-append D.statement_text gs' xs ∙ ap (λ (l : List ℕ). l ++ D.statements_text xs) (goals-text gs)) in
      ap₂ (λ (x y : List ℕ). x ++ y) header-text behind
      ∙ sym (append_assoc (remark_text (header_said n m)) (joined (item_text for_document) (map say cs))
      (joined D.objective_text gs ++ D.statements_text xs))

  pub file-good : D.constraint_count xs ≡ m → AllOf (WritableItem for_document) (map say cs)
      → AllOf (λ g. AllOf (D.GoodTerm n) (D.terms_of g.sum)) gs → length gs ≤ 1
      → AllOf (D.GoodStatement n) xs → D.WellFormed (file_for n m cs gs xs)
  unfolding file_for
  file-good k w g l x = record {
    variables = unsigned-good n;
    constraints = unsigned-good m;
    counted = unsigned-worth m ∙ sym k;
    comments = comments-good cs w;
    objective = subst (λ (k : ℕ). AllOf (λ g. AllOf (D.GoodTerm k) (D.terms_of g.sum)) gs) (sym (unsigned-worth n)) g;
    single = l;
    body = subst (λ (k : ℕ). AllOf (D.GoodStatement k) xs) (sym (unsigned-worth n)) x;
  }

-- ---- the rows of items in the document's order

rows-of-comments : (cs : List (List ℕ)) (is : List Item) → rows_asked (map say cs ++ is) ≡ rows_asked is
unfolding rows_asked
rows-of-comments [] is = refl
rows-of-comments (t ∷ cs) is = rows-of-comments cs is

rows-of-goals : (rs : List Row) (is : List Item) → rows_asked (map line rs ++ is) ≡ rs ++ rows_asked is
unfolding rows_asked
rows-of-goals [] is = refl
rows-of-goals (r ∷ rs) is = ap (λ (l : List Row). r ∷ l) (rows-of-goals rs is)

constraints-of-comments : (cs : List (List ℕ)) (is : List Item) → constraints_asked (map say cs ++ is) ≡ constraints_asked is
unfolding constraints_asked
constraints-of-comments [] is = refl
constraints-of-comments (t ∷ cs) is = constraints-of-comments cs is

constraints-of-goals : (rs : List Row) (is : List Item) → AllOf GoalWithTerms rs
    → constraints_asked (map line rs ++ is) ≡ constraints_asked is
unfolding constraints_asked
constraints-of-goals [] is g = refl
constraints-of-goals (r ∷ rs) is g = rw g.0.kind (constraints-of-goals rs is g.1)

module _ {is : List Item} (o : InOrder is) where
  rows-in-order : rows_asked is ≡ o.objectives ++ rows_asked o.body
  unfolding rows_asked
  rows-in-order =
      ap rows_asked o.order ∙ rows-of-comments o.comments (map line o.objectives ++ o.body)
      ∙ rows-of-goals o.objectives o.body

  pub constraints-in-order : constraints_asked is ≡ constraints_asked o.body
  unfolding constraints_asked
  constraints-in-order =
      ap constraints_asked o.order ∙ constraints-of-comments o.comments (map line o.objectives ++ o.body)
      ∙ constraints-of-goals o.objectives o.body o.goals

  named-parts : AllOf (UpTo o.variables) (o.objectives ++ rows_asked o.body)
  named-parts = subst (AllOf (UpTo o.variables)) rows-in-order o.named

  pub named-goals : AllOf (UpTo o.variables) o.objectives
  named-goals = left-part (UpTo o.variables) o.objectives (rows_asked o.body) named-parts

  pub named-body : AllOf (UpTo o.variables) (rows_asked o.body)
  named-body = right-part (UpTo o.variables) o.objectives (rows_asked o.body) named-parts

  -- ---- what holds of all items, holds of each part

  module _ (P : Item → Type 0) (all : AllOf P is) where
    behind-header : AllOf P (map say o.comments ++ (map line o.objectives ++ o.body))
    behind-header = (subst (AllOf P) o.order all).1

    pub all-comments : AllOf P (map say o.comments)
    all-comments = left-part P (map say o.comments) (map line o.objectives ++ o.body) behind-header

    pub all-body : AllOf P o.body
    all-body =
        right-part P (map line o.objectives) o.body
        (right-part P (map say o.comments) (map line o.objectives ++ o.body) behind-header)

-- ---- their text, and the text of the file

goal-line : (r : Row) → r.kind ≡ objective
    → item_text for_document (line r)
    ≡ min_text ++ (joined (apart 1) (printed true r).terms ++ (closed ++ offset_text (offset_of for_document r)))
unfolding item_text row_text
goal-line r k = ap (λ (x : Kind). text_by x 1 (printed true r).bound (printed true r).terms) (printed-kind true r ∙ ap shown_kind k)

-- the parts of the two texts: before the objective, `min:`, its terms, its end, its offset, behind
parted : (a w x c z b : List ℕ) → a ++ (((w ++ (x ++ (c ++ z))) ++ []) ++ b) ≡ (a ++ (w ++ x)) ++ (c ++ (z ++ b))
parted a w x c z b = simp (append_assoc, append-nil)

parted-by-space : (a w x c z b : List ℕ)
    → a ++ (((w ++ (x ++ (space ∷ c))) ++ []) ++ (z ++ b)) ≡ (a ++ (w ++ x)) ++ (space ∷ (c ++ (z ++ b)))
parted-by-space a w x c z b = simp (append_assoc, append-nil)

module _ {is : List Item} (o : InOrder is) where
  abbrev front : List ℕ
  front = joined (item_text for_document) (say (header_said o.variables (length (constraints_asked is))) ∷ map say o.comments)

  text_in-order : joined (item_text for_document) is
      ≡ front ++ (joined (item_text for_document) (map line o.objectives) ++ joined (item_text for_document) o.body)
  text_in-order =
      ap (joined (item_text for_document)) o.order
      ∙ joined-append (item_text for_document) (say (header_said o.variables (length (constraints_asked is))) ∷ map say o.comments)
      (map line o.objectives ++ o.body)
      ∙ ap (λ (l : List ℕ). front ++ l) (joined-append (item_text for_document) (map line o.objectives) o.body)

  abbrev pub file_of : List D.Objective → List D.Statement → D.File
  file_of gs xs = file_for o.variables (length (constraints_asked is)) o.comments gs xs

  text_of : (gs : List D.Objective) (xs : List D.Statement)
      → D.file_text (file_of gs xs) ≡ front ++ (joined D.objective_text gs ++ D.statements_text xs)
  text_of gs xs = file-text o.variables (length (constraints_asked is)) o.comments gs xs

  -- without an objective the two are the same
  pub same_text : (xs : List D.Statement) → D.statements_text xs ≡ joined (item_text for_document) o.body → o.objectives ≡ []
      → D.file_text (file_of [] xs) ≡ joined (item_text for_document) is
  unfolding joined
  same_text xs e k = text_of [] xs ∙ ap (λ (l : List ℕ). front ++ l) e ∙ sym (text_in-order ∙ rw k)

  -- with one they are parted before its `;`
  pub written-parted : (r : Row) → r.kind ≡ objective → o.objectives ≡ r ∷ []
      → joined (item_text for_document) is ≡ before_end o r ++ from_end o r
  unfolding joined before_end from_end
  written-parted r k e = text_in-order ∙ rw (e, goal-line r k) (parted front min_text _ closed _ _)

  pub document-parted : (r : Row) (g : D.Objective) (xs ys : List D.Statement)
      → D.objective_text g ≡ min_text ++ (joined (apart 1) (printed true r).terms ++ (space ∷ closed))
      → D.statements_text xs ≡ joined (item_text for_document) o.body
      → D.statements_text ys ≡ offset_text (offset_of for_document r) ++ D.statements_text xs
      → D.file_text (file_of (g ∷ []) ys) ≡ before_end o r ++ (space ∷ from_end o r)
  unfolding joined before_end from_end
  document-parted r g xs ys e q h =
      text_of (g ∷ []) ys ∙ rw (e, h, q)
      (parted-by-space front min_text _ closed (offset_text (offset_of for_document r)) (joined (item_text for_document) o.body))

-- ---- so the file that is written of accepted items is the document's, or lacks one space

module _ {is : List Item} (o : InOrder is) (w : AllOf (WritableItem for_document) is) where
  abbrev body : Statements o.variables o.body
  body = body_of o.variables o.body (all-body o (WritableItem for_document) w) o.behind (named-body o)

  count : (xs : List D.Statement) → D.constraint_count xs ≡ D.constraint_count body.statements
      → D.constraint_count xs ≡ length (constraints_asked is)
  count xs e = e ∙ body.count ∙ ap length (sym (constraints-in-order o))

  alike : (xs : List D.Statement) → constraints_in xs ≡ constraints_in body.statements
      → Paired SatisfiedAlike (constraints_asked is) (constraints_in xs)
  alike xs e = rw (constraints-in-order o, e) body.means

  without : o.objectives ≡ [] → WrittenDocument o (joined (item_text for_document) is)
  unfolding file_for
  without k =
      let xs = body.statements in
      record {
        document = file_of o [] xs;
        good =
            file-good o.variables _ o.comments [] xs (count xs refl) (all-comments o (WritableItem for_document) w) tt
            (omega arith) body.good;
        same = same_text o xs body.text;
        lacks = λ r e. never cc;
        constraints = alike xs refl;
        objectives = rw k none;
      }

  with-one : (r : Row) → o.objectives ≡ r ∷ [] → GoalWithTerms r → Aimed o.variables (printed true r)
      → WrittenDocument o (joined (item_text for_document) is)
  unfolding file_for
  with-one r k goal aimed =
      let off = with-offset o.variables (offset_of for_document r) body.statements in
      let xs = off.statements in
      record {
        document = file_of o (aimed.tree ∷ []) xs;
        good =
            file-good o.variables _ o.comments (aimed.tree ∷ []) xs (count xs off.count)
            (all-comments o (WritableItem for_document) w) (aimed.good, tt) (omega arith) (off.good body.good);
        same = λ e. never cc;
        lacks = λ q e.
            let z : r ≡ q = cc in
            rw (← z) (
              written-parted o r goal.kind k,
              document-parted o r aimed.tree body.statements xs aimed.text body.text off.text,
            );
        constraints = alike xs off.same;
        objectives = rw k (next (aimed-value o.variables r aimed goal) none);
      }

  pub in-document : WrittenDocument o (joined (item_text for_document) is)
  in-document = by o.objectives refl
    where
      by : (rs : List Row) → o.objectives ≡ rs → WrittenDocument o (joined (item_text for_document) is)
      by [] k = without k
      by (r ∷ []) k =
          let goal = (subst (AllOf GoalWithTerms) k o.goals).0 in
          with-one r k goal (aimed-row o.variables r goal (subst (AllOf (UpTo o.variables)) k (named-goals o)).0)
      by (r ∷ q ∷ rs) k = absurd (omega (arith, o.single, ap length k))
