-- A row or a statement that reads well has met its terms; what is left where none are met.
use Prim.Native.Nat.{ℕ, ◌+◌, ◌≤◌, ◌<◌}
use mathlib.Core.Path.{◌≡◌, refl, sym, ap, ◌∙◌}
use mathlib.Core.List.{List, [], ◌∷◌}
use lib.ListN.{length, get_or, drop, drop_of_length-le}
use lib.Seq.{take-nil, drop-cons}
use lib.IntN.{ℤ}
use Rattle.definitions.specs.declared.Fault.{Fault}
use Rattle.definitions.specs.Bytes.{blanks, begins, class_of}
use Rattle.definitions.specs.Reader.{Got, none, got, Reader, chain, done, fail}
use Rattle.definitions.specs.Walk.{stop, item}
use Rattle.definitions.specs.Row.{Term, Row, Line, comment, row, terms_of}
use Rattle.definitions.specs.Stepping.{columns_room}
use Rattle.definitions.specs.Text.{sum, comparison, ending, constraint, min_blanks, goal, as_line, statement_by, after_blanks}
use Rattle.definitions.specs.Text.{statement_at, statement}
use Rattle.definitions.specs.declared.Options.{Options}
use Rattle.definitions.specs.declared.Beginning.{Beginning}
use Rattle.definitions.specs.declared.Beginning.TheVariants.{Comment, Objective, Constraint, Nothing}
use Rattle.definitions.proofs.Chains.{chain-linked}
use Rattle.definitions.proofs.Statements.{finished-got, remark-taken}
use Rattle.definitions.proofs.Truths.{never}
use Rattle.definitions.proofs.Stops.{after-is-no-stop}
use Rattle.sums.specs.Met.{met_terms}
use Rattle.sums.specs.Walked.{TermsPut}
use Rattle.sums.proofs.MetTerms.{met-sum}
use Rattle.statements.specs.Met.{behind_min, goal_met, met_by, met_at, statement_met}

-- ---- none are met: the columns are as they were
pub none-put : (w : List ℤ) (l : List ℕ) → TermsPut [] w l w l
none-put w l = rw (take-nil {A = Term} (columns_room w l)) (record { weights = refl; literals = refl })

-- ---- a row that reads well

module _ (o : Options) (s : List ℕ) (r : Row) (m : ℕ) where
  constraint-met : constraint o s ≡ got r m → met_terms o s ≡ r.terms
  unfolding constraint
  constraint-met e =
      let l = chain-linked (sum o) _ s r m e in
      let k = chain-linked comparison _ (drop l.taken s) r l.behind l.there in
      let z = finished-got o _ _ _ l.given (drop k.taken (drop l.taken s)) r k.behind k.there in
      met-sum o s l.given l.taken l.here ∙ ap (λ (x : Row). x.terms) (sym z.0)

  goal-met : goal o s ≡ got r m → goal_met o s ≡ r.terms
  unfolding goal goal_met
  goal-met e =
      let i = chain-linked min_blanks _ s r m e in
      let l = chain-linked (sum o) _ (drop i.taken s) r i.behind i.there in
      let k = chain-linked ending _ (drop l.taken (drop i.taken s)) r l.behind l.there in
      let z = finished-got o _ _ _ l.given (drop k.taken (drop l.taken (drop i.taken s))) r k.behind k.there in
      ap (λ (g : Got ℕ). behind_min o g s) i.here ∙ met-sum o (drop i.taken s) l.given l.taken l.here
      ∙ ap (λ (x : Row). x.terms) (sym z.0)

-- ---- a statement that reads well

module _ (o : Options) where
  -- a line that is a row has the row's terms
  as_row : (p : Reader Row) (s : List ℕ) (l : Line) (m : ℕ) (ts : List Term) → ((r : Row) (n : ℕ) → p s ≡ got r n → ts ≡ r.terms)
      → chain p as_line s ≡ got l m
      → ts ≡ terms_of l
  unfolding done
  as_row p s l m ts h e =
      let c = chain-linked p as_line s l m e in
      let d : got (row c.given) 0 ≡ got l c.behind = c.there in
      let q : row c.given ≡ l = cc in
      h c.given c.taken c.here ∙ ap terms_of q

  begun-met : (b : Beginning) (s : List ℕ) (l : Line) (m : ℕ) → statement_by b o s ≡ got l m → met_by b o s ≡ terms_of l
  unfolding fail
  begun-met Comment s l m e = sym (remark-taken s l m e).2
  begun-met Objective s l m e = as_row (goal o) s l m (goal_met o s) (goal-met o s) e
  begun-met Constraint s l m e = as_row (constraint o) s l m (met_terms o s) (constraint-met o s) e
  begun-met Nothing s l m e = never (cc)

  blanks-met : (k : ℕ) (g : Got Line) (l : Line) (m : ℕ) (ts : List Term) → ((x : Line) (n : ℕ) → g ≡ got x n → ts ≡ terms_of x)
      → after_blanks k g ≡ item l m
      → ts ≡ terms_of l
  blanks-met k (none e) l m ts h q = never (cc)
  blanks-met k (got (comment f n b) j) l m ts h q = let e : comment (k + f) n b ≡ l = cc in h (comment f n b) j refl ∙ ap terms_of e
  blanks-met k (got (row r) j) l m ts h q = let e : row r ≡ l = cc in h (row r) j refl ∙ ap terms_of e

  at-met : (k : ℕ) (s : List ℕ) (l : Line) (m : ℕ) → statement_at o k s ≡ item l m → met_at o s ≡ terms_of l
  unfolding statement_at
  at-met k [] l m e = never (cc)
  at-met k (b ∷ s) l m e =
      blanks-met k (statement_by (begins (class_of b)) o (b ∷ s)) l m (met_by (begins (class_of b)) o (b ∷ s))
      (begun-met (begins (class_of b)) (b ∷ s)) e

  pub statement-met : (s : List ℕ) (l : Line) (m : ℕ) → statement o s ≡ item l m → statement_met o s ≡ terms_of l
  unfolding statement statement_met
  statement-met s l m e = at-met (blanks s) (drop (blanks s) s) l m e

  at-stop-met : (k : ℕ) (s : List ℕ) → statement_at o k s ≡ stop → met_at o s ≡ []
  unfolding statement_at
  at-stop-met k [] e = refl
  at-stop-met k (b ∷ s) e = absurd (after-is-no-stop k (statement_by (begins (class_of b)) o (b ∷ s)) e)

  pub stop-met : (s : List ℕ) → statement o s ≡ stop → statement_met o s ≡ []
  unfolding statement statement_met
  stop-met s e = at-stop-met (blanks s) (drop (blanks s) s) e

-- ---- as the code finds it

-- `min:` is not there, or stands before a bytes
module _ (o : Options) (s : List ℕ) where
  pub goal-none : (e : Fault) → min_blanks s ≡ none e → goal_met o s ≡ []
  unfolding goal_met
  goal-none e q = ap (λ (g : Got ℕ). behind_min o g s) q

  pub goal-behind : (k a : ℕ) → min_blanks s ≡ got k a → goal_met o s ≡ met_terms o (drop a s)
  unfolding goal_met
  goal-behind k a q = ap (λ (g : Got ℕ). behind_min o g s) q

-- k blanks, and the end or a byte that begins p
module _ (o : Options) (s : List ℕ) (k : ℕ) (is : k ≡ blanks s) where
  pub end-met : length s ≤ k → statement_met o s ≡ []
  unfolding statement_met
  end-met h = rw (← is, drop_of_length-le s h)

  pub met-begun : k < length s → (p : Beginning) → p ≡ begins (class_of (get_or s k 0)) → (q : Beginning) → p ≡ q
      → statement_met o s ≡ met_by q o (drop k s)
  unfolding statement_met
  met-begun h p b q e = rw (← is, drop-cons s k 0 h, ← b, e)
