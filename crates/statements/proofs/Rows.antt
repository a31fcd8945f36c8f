-- Laws of rows and statements, by what the code tells apart: what closes a row, a row behind its sum, a statement
-- behind its blanks.
use Prim.Native.Nat.{ℕ, suc, ◌+◌, ◌^◌, ◌≤◌, ◌<◌}
use mathlib.Core.Path.{◌≡◌, refl, sym, ap, ◌∙◌}
use mathlib.Core.Bool.{Bool, true, false, cond, ◌&&◌, and-true}
use mathlib.Core.List.{List, [], ◌∷◌}
use native.Mathlib.Omega.{arith}
use native.Mathlib.Decide.{dec_le}
use borrow.Author.Tests.{le-leb, lt-leb}
use lib.Dec.{leb, eqb}
use lib.IntN.{ℤ, pos}
use lib.ListN.{length, get_or, drop, length-drop, drop_of_length-le}
use lib.Seq.{drop-cons, drop-drop}
use Rattle.definitions.specs.declared.Fault.{Fault}
use Rattle.definitions.specs.Limits.{weight_limit, in_i64}
use Rattle.definitions.specs.Refusal.{refusal, fault}
use Rattle.definitions.specs.Bytes.{space, is_at, blanks, class_of, begins}
use Rattle.definitions.specs.Reader.{Got, none, got, Reader, more, chain, done, fail}
use Rattle.definitions.specs.Walk.{stop, bad, item}
use Rattle.definitions.specs.Row.{Term, Row, row_of, Line, comment, row, sizes}
use Rattle.definitions.specs.declared.Kind.{Kind}
use Rattle.definitions.specs.declared.Kind.TheVariants.{Objective as objective}
use Rattle.definitions.specs.Table.{kind_number}
use Rattle.definitions.specs.Text.{sum, ending, Comparison, comparison, kind_of, bound_of, finished, constraint, min_blanks}
use Rattle.definitions.specs.Text.{goal, space_after, remark, as_line, statement_by, after_blanks, statement_at, statement}
use Rattle.definitions.specs.declared.Options.{Options}
use Rattle.definitions.specs.declared.Beginning.{Beginning}
use Rattle.definitions.specs.declared.Beginning.TheVariants.{Comment, Objective, Constraint, Nothing}
use Rattle.definitions.proofs.Chains.{chain-none, chain-got, chain-linked}
use Rattle.definitions.proofs.Statements.{RowTaken, remark-taken, within-comparison, within-ending}
use Rattle.definitions.proofs.Texts.{blanks-within}
use Rattle.term_checks.specs.Sizes.{capped}
use Rattle.beginnings.specs.Said.{said_comment}
use Rattle.beginnings.specs.declared.Comment.{Comment as Remark}
use Rattle.std.specs.Prelude.{Option, Some, None}
use Rattle.columns.specs.Entries.{entry_of, entry_alone}
use Rattle.closings.specs.Closed.{closed_by, ended_by}
use Rattle.statements.specs.Brief.{brief_row, brief_step, row_after, comment_after}
use Rattle.statements.specs.Fitting.{Fitting, CommentFitting}
use Rattle.definitions.proofs.Truths.{never}
use Rattle.sums.proofs.Sums.{SumIs}

-- ---- a row behind its sum

-- a sum is above M where its capped size is
capped-light : (n : ℕ) → leb (capped n) weight_limit ≡ leb n weight_limit
capped-light n = by (dec_le n weight_limit)
  where
    by : Dec (n ≤ weight_limit) → leb (capped n) weight_limit ≡ leb n weight_limit
    by (yes h) = le-leb (capped n) weight_limit (omega arith) ∙ sym (le-leb n weight_limit h)
    by (no h) = lt-leb (capped n) weight_limit (omega arith) ∙ sym (lt-leb n weight_limit (omega arith))

more-more : {A : Type 0} (n m : ℕ) (g : Got A) → more n (more m g) ≡ more (n + m) g
more-more n m (none e) = refl
more-more n m (got a k) = ap (got a) (omega arith)

-- m bytes of what closes it, behind n bytes
finished-brief : (o : Options) (c : Bool) (k : Kind) (b : ℤ) (ts : List Term) (s : List ℕ) (n m : ℕ)
    → more n (cond (leb (capped (sizes ts)) weight_limit && in_i64 b) (got (entry_of (kind_number k) 0 (length ts) b) m) (none (fault 8)))
    ≡ brief_row (more (n + m) (finished o c k b ts s))
unfolding finished
finished-brief o c k b ts s n m = rw (capped-light (sizes ts)) (by (leb (sizes ts) weight_limit && in_i64 b))
  where
    by : (x : Bool) → more n (cond x (got (entry_of (kind_number k) 0 (length ts) b) m) (none (fault 8)))
        ≡ brief_row (more (n + m) (cond x (got (row_of k b ts) 0) (none (fault 8))))
    by true = ap (got (entry_of (kind_number k) 0 (length ts) b)) (omega arith)
    by false = refl

module _ (o : Options) (s : List ℕ) where
  pub constraint-no-sum : (e : Fault) → sum o s ≡ none e → none e ≡ brief_row (constraint o s)
  unfolding constraint
  constraint-no-sum e q = ap brief_row (sym (chain-none (sum o) _ s e q))

  constraint-by : (ts : List Term) (n : ℕ) → sum o s ≡ got ts n
      → more n (closed_by o (length ts) (capped (sizes ts)) (comparison (drop n s))) ≡ brief_row (constraint o s)
  unfolding constraint
  constraint-by ts n q = by (comparison (drop n s)) refl
    where
      by : (g : Got Comparison) → comparison (drop n s) ≡ g
          → more n (closed_by o (length ts) (capped (sizes ts)) g) ≡ brief_row (constraint o s)
      by (none e) f = ap brief_row (sym (chain-got (sum o) _ s ts n q ∙ ap (more n) (chain-none comparison _ (drop n s) e f)))
      by (got c m) f =
          let k = kind_of c.operator in
          let b = bound_of c.operator c.number in
          let t = drop m (drop n s) in
          finished-brief o c.semicolon k b ts t n m
          ∙ ap brief_row (sym (chain-got (sum o) _ s ts n q ∙ ap (more n) (chain-got comparison _ (drop n s) c m f)
          ∙ more-more n m (finished o c.semicolon k b ts t)))

  pub constraint-sum : (terms size n : ℕ) → SumIs o s terms size n
      → more n (closed_by o terms size (comparison (drop n s))) ≡ brief_row (constraint o s)
  constraint-sum terms size n w = rw (← w.counted, ← w.sized) (constraint-by w.terms n w.is)

  pub goal-no-min : min_blanks s ≡ none (fault 2) → none (fault 2) ≡ brief_row (goal o s)
  unfolding goal
  goal-no-min q = ap brief_row (sym (chain-none min_blanks _ s (fault 2) q))

  -- behind `min:` and its blanks, a bytes
  module _ (k a : ℕ) (b : min_blanks s ≡ got k a) where
    pub goal-no-sum : (e : Fault) → sum o (drop a s) ≡ none e → none e ≡ brief_row (goal o s)
    unfolding goal
    goal-no-sum e q = ap brief_row (sym (chain-got min_blanks _ s k a b ∙ ap (more a) (chain-none (sum o) _ (drop a s) e q)))

    goal-by : (ts : List Term) (n : ℕ) → sum o (drop a s) ≡ got ts n
        → more (a + n) (ended_by o (length ts) (capped (sizes ts)) (ending (drop (a + n) s))) ≡ brief_row (goal o s)
    unfolding goal in_i64
    goal-by ts n q = rw (← drop-drop n a s) (by (ending (drop n (drop a s))) refl)
      where
        by : (g : Got Bool) → ending (drop n (drop a s)) ≡ g
            → more (a + n) (ended_by o (length ts) (capped (sizes ts)) g) ≡ brief_row (goal o s)
        by (none e) f =
            ap brief_row (sym (chain-got min_blanks _ s k a b
            ∙ ap (more a) (chain-got (sum o) _ (drop a s) ts n q ∙ ap (more n) (chain-none ending _ (drop n (drop a s)) e f))))
        by (got c m) f =
            let t = drop m (drop n (drop a s)) in
            let z = finished o c objective (pos 0) ts t in
            ap (λ (x : Bool). more (a + n) (cond x (got (entry_of (kind_number objective) 0 (length ts) (pos 0)) m) (none (fault 8))))
            (sym (and-true (leb (capped (sizes ts)) weight_limit)))
            ∙ finished-brief o c objective (pos 0) ts t (a + n) m
            ∙ ap brief_row (sym (chain-got min_blanks _ s k a b
            ∙ ap (more a) (chain-got (sum o) _ (drop a s) ts n q ∙ ap (more n) (chain-got ending _ (drop n (drop a s)) c m f))
            ∙ more-more a n (more m z) ∙ more-more (a + n) m z))

    pub goal-sum : (terms size n : ℕ) → SumIs o (drop a s) terms size n
        → more (a + n) (ended_by o terms size (ending (drop (a + n) s))) ≡ brief_row (goal o s)
    goal-sum terms size n w = rw (← w.counted, ← w.sized) (goal-by w.terms n w.is)

-- ---- what closes a row behind n bytes has a machine number of bytes
limited : {A : Type 0} (x : Bool) (n m : ℕ) (a : A) → n + m < 2 ^ 64 → Fitting n (cond x (got a m) (none (fault 8)))
limited true n m a h = h
limited false n m a h = tt

module _ (o : Options) (terms size n : ℕ) (s : List ℕ) (h : n + length s < 2 ^ 64) where
  pub closed-fits : Fitting n (closed_by o terms size (comparison s))
  closed-fits = by (comparison s) refl
    where
      by : (g : Got Comparison) → comparison s ≡ g → Fitting n (closed_by o terms size g)
      by (none e) q = tt
      by (got c m) q =
          let b = bound_of c.operator c.number in
          limited (leb size weight_limit && in_i64 b) n m (entry_of (kind_number (kind_of c.operator)) 0 terms b)
          (omega (arith, within-comparison.most s c m q))

  pub ended-fits : Fitting n (ended_by o terms size (ending s))
  ended-fits = by (ending s) refl
    where
      by : (g : Got Bool) → ending s ≡ g → Fitting n (ended_by o terms size g)
      by (none e) q = tt
      by (got c m) q =
          limited (leb size weight_limit) n m (entry_of (kind_number objective) 0 terms (pos 0)) (omega (arith, within-ending.most s c m q))

-- ---- a statement behind its k blanks

-- a place behind them is a machine number
pub row_fits : (k : ℕ) (s : List ℕ) → k + length s < 2 ^ 64 → (g : Got Row) → ((r : Row) (n : ℕ) → g ≡ got r n → RowTaken s r n)
    → Fitting k (brief_row g)
row_fits k s h (none e) f = tt
row_fits k s h (got r n) f = omega (arith, (f r n refl).within)

one_at_most : (t : Bool) (n : ℕ) → cond t 1 0 ≤ suc n
one_at_most true n = omega arith
one_at_most false n = omega arith

space-within : (s : List ℕ) → space_after s ≤ length s
unfolding is_at
space-within [] = omega arith
space-within (b ∷ s) = one_at_most (eqb b space) (length s)

first-within : (s : List ℕ) (f n : ℕ) (z : ℤ) (m : ℕ) → remark s ≡ got (comment f n z) m → f ≤ length s
unfolding remark
first-within [] f n z m e = never (cc)
first-within (b ∷ s) f n z m e = let q : 1 + space_after s ≡ f = cc in omega (arith, space-within s)

pub comment-fits : (k : ℕ) (s : List ℕ) → k + length s < 2 ^ 64 → (r : Option Remark) → said_comment r ≡ remark s → CommentFitting k r
comment-fits k s h (Some c) e =
    (omega (arith, first-within s c.first c.count (pos 0) c.taken (sym e)), omega (arith, (remark-taken s (comment c.first c.count (pos 0)) c.taken (sym e)).1))
comment-fits k s h None e = tt

comment-after-is : (k : ℕ) (g : Got Line) → comment_after k g ≡ brief_step (after_blanks k g)
comment-after-is k (none e) = refl
comment-after-is k (got (comment f n b) m) = refl
comment-after-is k (got (row r) m) = refl

row-after-is : (k : ℕ) (p : Reader Row) (s : List ℕ) → row_after k (brief_row (p s)) ≡ brief_step (after_blanks k (chain p as_line s))
unfolding done
row-after-is k p s = by (p s) refl
  where
    by : (g : Got Row) → p s ≡ g → row_after k (brief_row g) ≡ brief_step (after_blanks k (chain p as_line s))
    by (none e) q = ap (λ x. brief_step (after_blanks k x)) (sym (chain-none p as_line s e q))
    by (got r n) q =
        let e : n ≡ n + 0 = omega arith in
        ap (λ (m : ℕ). row_after k (brief_row (got r m))) e ∙ ap (λ x. brief_step (after_blanks k x)) (sym (chain-got p as_line s r n q))

module _ (o : Options) (s : List ℕ) (k : ℕ) (is : k ≡ blanks s) where
  pub statement-end : length s ≤ k → stop ≡ brief_step (statement o s)
  unfolding statement statement_at
  statement-end h = rw (← is, drop_of_length-le s h)

  -- the byte there begins p
  module _ (h : k < length s) (p : Beginning) (b : p ≡ begins (class_of (get_or s k 0))) where
    pub begun : (q : Beginning) → p ≡ q → after_blanks k (statement_by q o (drop k s)) ≡ statement o s
    unfolding statement statement_at
    begun q e = rw (← is, drop-cons s k 0 h, ← b, e)

    pub statement-comment : p ≡ Comment → comment_after k (remark (drop k s)) ≡ brief_step (statement o s)
    statement-comment e = comment-after-is k (remark (drop k s)) ∙ ap brief_step (begun Comment e)

    pub statement-goal : p ≡ Objective → row_after k (brief_row (goal o (drop k s))) ≡ brief_step (statement o s)
    statement-goal e = row-after-is k (goal o) (drop k s) ∙ ap brief_step (begun Objective e)

    pub statement-constraint : p ≡ Constraint → row_after k (brief_row (constraint o (drop k s))) ≡ brief_step (statement o s)
    statement-constraint e = row-after-is k (constraint o) (drop k s) ∙ ap brief_step (begun Constraint e)

    pub statement-nothing : p ≡ Nothing → bad (refusal 2 k) ≡ brief_step (statement o s)
    unfolding fail
    statement-nothing e = ap brief_step (begun Nothing e)

-- a comment's text begins within the text
module _ (o : Options) where
  no-comment : (p : Reader Row) (s : List ℕ) (f n : ℕ) (b : ℤ) (m : ℕ) → chain p as_line s ≡ got (comment f n b) m → f ≤ length s
  unfolding done
  no-comment p s f n b m e =
      let l = chain-linked p as_line s (comment f n b) m e in
      let d : got (row l.given) 0 ≡ got (comment f n b) l.behind = l.there in
      never (cc)

  begun_first : (p : Beginning) (s : List ℕ) (f n : ℕ) (b : ℤ) (m : ℕ) → statement_by p o s ≡ got (comment f n b) m → f ≤ length s
  unfolding fail
  begun_first Comment s f n b m e = first-within s f n b m e
  begun_first Objective s f n b m e = no-comment (goal o) s f n b m e
  begun_first Constraint s f n b m e = no-comment (constraint o) s f n b m e
  begun_first Nothing s f n b m e = never (cc)

  blanks-first : (k : ℕ) (s : List ℕ) (g : Got Line) (l : Line) (m : ℕ)
      → ((f n : ℕ) (b : ℤ) (j : ℕ) → g ≡ got (comment f n b) j → f ≤ length s) → after_blanks k g ≡ item l m
      → (entry_alone l).first ≤ k + length s
  blanks-first k s (none e) l m h q = never (cc)
  blanks-first k s (got (comment f n b) j) l m h q =
      let e : comment (k + f) n b ≡ l = cc in
      rw (← e) (omega (arith, h f n b j refl))
  blanks-first k s (got (row r) j) l m h q = let e : row r ≡ l = cc in rw (← e) (omega arith)

  at_first_lem : (k : ℕ) (s : List ℕ) (l : Line) (m : ℕ) → statement_at o k s ≡ item l m → (entry_alone l).first ≤ k + length s
  unfolding statement_at
  at_first_lem k [] l m e = never (cc)
  at_first_lem k (c ∷ s) l m e =
      blanks-first k (c ∷ s) (statement_by (begins (class_of c)) o (c ∷ s)) l m (begun_first (begins (class_of c)) (c ∷ s)) e

  pub statement-first : (s : List ℕ) (l : Line) (m : ℕ) → statement o s ≡ item l m → (entry_alone l).first ≤ length s
  unfolding statement
  statement-first s l m e = omega (arith, at_first_lem (blanks s) (drop (blanks s) s) l m e, length-drop (blanks s) s, blanks-within s)
