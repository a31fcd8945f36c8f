-- How many bytes does each reader of Text.antt take? No more than there are, and a statement or a term at least one. A
-- statement has no more terms than bytes.
use Prim.Native.Nat.{ℕ, zero, suc, ◌+◌, ◌-◌, ◌≤◌, ◌<◌}
use mathlib.Core.Path.{◌≡◌, refl, sym, ap, ◌∙◌}
use mathlib.Core.Bool.{Bool, true, false, cond, ◌&&◌, ◌||◌}
use mathlib.Core.List.{List, [], ◌∷◌}
use native.Mathlib.Omega.{arith}
use lib.Dec.{leb, eqb}
use lib.ListN.{length, drop, length-drop}
use lib.IntN.{ℤ, pos}
use Rattle.definitions.specs.Refusal.{Checked, refuse, accept, fault, fault_of}
use Rattle.definitions.specs.Bytes.{min_text, is_at, blanks, line_ending, until_ending, begins, class_of, minus, semicolon, less}
use Rattle.definitions.specs.Bytes.{equals, greater, letter_x, tilde}
use Rattle.definitions.specs.Reader.{Got, none, got, Reader, more, chain, done, fail}
use Rattle.definitions.specs.Number.{leading, value, number}
use Rattle.definitions.specs.Literal.{index}
use Rattle.definitions.specs.Walk.{stop, item, Walked, broken, items, all, anywhere}
use Rattle.definitions.specs.Lists.{starts_with}
use Rattle.definitions.specs.Limits.{weight_limit, in_i64}
use Rattle.definitions.specs.Row.{Term, Kind, Row, row_of, Line, comment, row, terms_of, sizes}
use Rattle.definitions.specs.Text.{gap, some_blanks, gap1, code_by, digits, variable, literal, after_weight, weighted}
use Rattle.definitions.specs.Text.{begins_term, as_step, term_step, as_got, sum, operator, closing, ending, Comparison}
use Rattle.definitions.specs.Text.{comparison, finished, constraint, min_word, min_blanks, goal, remark, as_line, statement_by}
use Rattle.definitions.specs.Text.{after_blanks, statement_at, statement, space_after}
use Rattle.definitions.specs.declared.Options.{Options}
use Rattle.definitions.specs.declared.Beginning.{Beginning}
use Rattle.definitions.specs.declared.Beginning.TheVariants.{Comment, Objective, Constraint, Nothing}
use Rattle.definitions.proofs.Truths.{never, cond-holds}
use Rattle.definitions.proofs.Chains.{Within, within-chain, within-done, chain-linked}
use Rattle.definitions.proofs.Walks.{Moves, all-ended, all-summed, total-one}
use Rattle.definitions.proofs.Texts.{blanks-within, ending-within, until-within}
use Rattle.definitions.proofs.Numbers.{number-within, leading_length}

-- ---- the smallest: what is got of n bytes has no more than there are
abbrev Most : {A : Type 0} → List ℕ → Got A → Type 0
Most s (none e) = Unit {0}
Most s (got a n) = n ≤ length s

most-within : {A : Type 0} (p : Reader A) → ((s : List ℕ) → Most s (p s)) → Within p
most-within p f = record { most = λ s a n e. rw e at (f s) }

most-more : {A : Type 0} (b : ℕ) (s : List ℕ) (g : Got A) → Most s g → Most (b ∷ s) (more 1 g)
most-more b s (none e) h = tt
most-more b s (got a n) h = omega arith

within-gap : Within gap
unfolding gap
within-gap = most-within gap blanks-within

within-gap1 : Within gap1
unfolding gap1
within-gap1 = most-within gap1 (λ s. by s (blanks s) (blanks-within s))
  where
    by : (s : List ℕ) (k : ℕ) → k ≤ length s → Most s (some_blanks k)
    by s zero h = tt
    by s (suc k) h = h

within-number : Within number
within-number = record { most = λ s z n e. (number-within s e).1 }

module _ (o : Options) where
  most-digits : (negative : Bool) (s : List ℕ) → Most s (digits o negative s)
  unfolding digits
  most-digits negative s =
      cond-holds (eqb (length (leading s)) 0) (none (fault 4)) (code_by negative (length (leading s)) (index o.first (value (leading s))))
      (Most s) tt
      (by (index o.first (value (leading s))))
    where
      by : (c : Checked ℕ) → Most s (code_by negative (length (leading s)) c)
      by (refuse e) = tt
      by (accept v) = leading_length s

  most-variable : (negative : Bool) (s : List ℕ) → Most s (variable o negative s)
  unfolding variable
  most-variable negative [] = tt
  most-variable negative (b ∷ s) =
      cond-holds (eqb b letter_x) (more 1 (digits o negative s)) (none (fault 4)) (Most (b ∷ s))
      (most-more b s (digits o negative s) (most-digits negative s)) tt

  most-literal : (s : List ℕ) → Most s (literal o s)
  unfolding literal
  most-literal [] = tt
  most-literal (b ∷ s) =
      cond-holds (eqb b tilde || eqb b minus) (more 1 (variable o true s)) (variable o false (b ∷ s)) (Most (b ∷ s))
      (most-more b s (variable o true s) (most-variable true s)) (most-variable false (b ∷ s))

  pub within-literal : Within (literal o)
  within-literal = most-within (literal o) most-literal

  pub within-after-weight : (w : ℤ) → Within (after_weight o w)
  unfolding after_weight
  within-after-weight w =
      within-chain gap1 _ within-gap1
      (λ _. within-chain (literal o) _ within-literal (λ c. within-chain gap _ within-gap (λ _. within-done _)))

  pub within-weighted : Within (weighted o)
  unfolding weighted
  within-weighted = within-chain number (λ w. after_weight o w) within-number within-after-weight

  -- a term has at least the byte of its number
  pub weighted-least : (s : List ℕ) (t : Term) (n : ℕ) → weighted o s ≡ got t n → 0 < n
  unfolding weighted
  weighted-least s t n e =
      let l = chain-linked number (λ w. after_weight o w) s t n e in
      omega (arith, (number-within s l.here).0, l.total)

-- ---- a sum: a walk over terms
module _ (o : Options) where
  as-step-item : {A : Type 0} (g : Got A) (a : A) (n : ℕ) → as_step g ≡ item a n → g ≡ got a n
  as-step-item (none e) a n q = never cc
  as-step-item (got b m) a n q = let x : b ≡ a = cc in let y : m ≡ n = cc in cc

  pub term-step-item : (s : List ℕ) (t : Term) (n : ℕ) → term_step o s ≡ item t n → weighted o s ≡ got t n
  unfolding term_step
  term-step-item s t n e = by (begins_term s) refl
    where
      by : (b : Bool) → begins_term s ≡ b → weighted o s ≡ got t n
      by true q = as-step-item (weighted o s) t n (sym (rw (q, term_step)) ∙ e)
      by false q = let c : stop ≡ item t n = sym (rw (q, term_step)) ∙ e in never cc

  pub term-moves : Moves (term_step o)
  term-moves =
      record {
        none = nothing;
        least = λ s t n e. weighted-least o s t n (term-step-item s t n e);
        most = λ s t n e. (within-weighted o).most s t n (term-step-item s t n e);
      }
    where
      nothing : term_step o [] ≡ stop
      nothing = unfold term_step begins_term in refl

  pub sum-within : (s : List ℕ) (ts : List Term) (n : ℕ) → sum o s ≡ got ts n → (n ≤ length s) × (length ts ≤ n)
  unfolding sum
  sum-within s ts n e = by (all (term_step o) anywhere s) refl
    where
      by : (w : Walked Term) → all (term_step o) anywhere s ≡ w → (n ≤ length s) × (length ts ≤ n)
      by (broken r) q = let c : none (fault_of r) ≡ got ts n = ap as_got (sym q) ∙ e in never cc
      by (items xs m) q =
          let c : got xs m ≡ got ts n = ap as_got (sym q) ∙ e in
          let x : xs ≡ ts = cc in
          let y : m ≡ n = cc in
          let f : all (term_step o) anywhere s ≡ items ts n = cc in (
            (all-ended (term_step o) anywhere (λ _. Unit {0}) (λ _ _ _ _ _. tt) s ts n f).0,
            omega (
              arith,
              all-summed (term_step o) anywhere term-moves (λ _. 1) (λ s' t k at i. term-moves.least s' t k i) s ts n f,
              total-one ts,
            ),
          )

-- ---- operator, ending, comparison
most-operator : (s : List ℕ) → Most s (operator s)
unfolding operator
most-operator [] = tt
most-operator (b ∷ s) =
    cond-holds (eqb b less) _ _ (Most (b ∷ s)) (two s _ _)
    (cond-holds (eqb b greater) _ _ (Most (b ∷ s)) (two s _ _) (cond-holds (eqb b equals) _ _ (Most (b ∷ s)) (omega arith) tt))
  where
    two : {A : Type 0} (s : List ℕ) (p q : A) → Most (b ∷ s) (cond (is_at equals s) (got p 2) (got q 1))
    two [] p q = unfold is_at in omega arith
    two (c ∷ s) p q = cond-holds (is_at equals (c ∷ s)) (got p 2) (got q 1) (Most (b ∷ c ∷ s)) (omega arith) (omega arith)

-- an operator and `min:` have a byte
abbrev Least : {A : Type 0} → Got A → Type 0
Least (none e) = Unit {0}
Least (got a n) = 0 < n

least-operator : (s : List ℕ) → Least (operator s)
unfolding operator
least-operator [] = tt
least-operator (b ∷ s) =
    cond-holds (eqb b less) _ _ Least (cond-holds (is_at equals s) (got _ 2) (got _ 1) Least (omega arith) (omega arith))
    (cond-holds (eqb b greater) _ _ Least (cond-holds (is_at equals s) (got _ 2) (got _ 1) Least (omega arith) (omega arith))
    (cond-holds (eqb b equals) _ _ Least (omega arith) tt))

least-min-word : (s : List ℕ) → Least (min_word s)
unfolding min_word
least-min-word s = cond-holds (starts_with min_text s) (got 0 (length min_text)) (none (fault 2)) Least (omega arith) tt

pub within-operator : Within operator
within-operator = most-within operator most-operator

most-closing : (s : List ℕ) → Most s (closing s)
unfolding closing
most-closing [] = omega arith
most-closing (b ∷ s) =
    cond-holds (eqb b semicolon) _ _ (Most (b ∷ s))
    (omega (arith, blanks-within s, ending-within (drop (blanks s) s), length-drop (blanks s) s))
    (by (line_ending (b ∷ s)) (ending-within (b ∷ s)))
  where
    by : (k : ℕ) → k ≤ length (b ∷ s) → Most {A = Bool} (b ∷ s) (elim k [ zero ↦ none (fault 7) | suc j ↦ got false (suc j) ])
    by zero h = tt
    by (suc k) h = h

pub within-closing : Within closing
within-closing = most-within closing most-closing

pub within-ending : Within ending
unfolding ending
within-ending = within-chain gap (λ _. closing) within-gap (λ _. within-closing)

pub within-comparison : Within comparison
unfolding comparison
within-comparison =
    within-chain operator _ within-operator
    (λ p. within-chain gap _ within-gap
    (λ _. within-chain number _ within-number (λ b. within-chain ending _ within-ending (λ _. within-done _))))

-- ---- rows
pub finished-got : (o : Options) (c : Bool) (k : Kind) (b : ℤ) (ts : List Term) (s : List ℕ) (r : Row) (n : ℕ)
    → finished o c k b ts s ≡ got r n → (r ≡ row_of k b ts) × (n ≡ 0)
unfolding finished
finished-got o c k b ts s r n e = by (leb (sizes ts) weight_limit && in_i64 b) refl
  where
    by : (x : Bool) → (leb (sizes ts) weight_limit && in_i64 b) ≡ x → (r ≡ row_of k b ts) × (n ≡ 0)
    by true q = let c : got (row_of k b ts) 0 ≡ got r n = sym (rw q) ∙ e in (cc, cc)
    by false q = let c : none (fault 8) ≡ got r n = sym (rw q) ∙ e in never cc

starts-within : (w s : List ℕ) → starts_with w s ≡ true → length w ≤ length s
unfolding starts_with
starts-within [] s e = omega arith
starts-within (p ∷ w) [] e = never cc
starts-within (p ∷ w) (b ∷ s) e = by (eqb b p) e (λ q. starts-within w s q)
  where
    by : (x : Bool) → x && starts_with w s ≡ true → (starts_with w s ≡ true → length w ≤ length s) → length (p ∷ w) ≤ length (b ∷ s)
    by true q f = omega (arith, f q)
    by false q f = never cc

most-min-word : (s : List ℕ) → Most s (min_word s)
unfolding min_word
most-min-word s = by (starts_with min_text s) refl
  where
    by : (x : Bool) → starts_with min_text s ≡ x → Most {A = ℕ} s (cond (starts_with min_text s) (got 0 (length min_text)) (none (fault 2)))
    by true q = rw q (starts-within min_text s q)
    by false q = rw q tt

pub within-min-blanks : Within min_blanks
unfolding min_blanks
within-min-blanks = within-chain min_word (λ _. gap) (most-within min_word most-min-word) (λ _. within-gap)

comparison-least : (s : List ℕ) (c : Comparison) (n : ℕ) → comparison s ≡ got c n → 0 < n
unfolding comparison
comparison-least s c n e =
    let l = chain-linked operator _ s c n e in
    let h : 0 < l.taken = rw l.here at (least-operator s) in
    omega (arith, l.total)

min-blanks-least : (s : List ℕ) (k n : ℕ) → min_blanks s ≡ got k n → 0 < n
unfolding min_blanks
min-blanks-least s k n e =
    let l = chain-linked min_word _ s k n e in
    let h : 0 < l.taken = rw l.here at (least-min-word s) in
    omega (arith, l.total)

-- a row of n bytes: at least one, as many as there are at most, and no more terms than that
pub record RowTaken (s : List ℕ) (r : Row) (n : ℕ) : Type 0 where
  pub least : 0 < n
  pub within : n ≤ length s
  pub terms : length r.terms ≤ n

module _ (o : Options) (s : List ℕ) (r : Row) (n : ℕ) where
  pub constraint-taken : constraint o s ≡ got r n → RowTaken s r n
  unfolding constraint
  constraint-taken e =
      let l = chain-linked (sum o) _ s r n e in
      let m = chain-linked comparison _ (drop l.taken s) r l.behind l.there in
      let z = finished-got o _ _ _ l.given (drop m.taken (drop l.taken s)) r m.behind m.there in
      let w = sum-within o s l.given l.taken l.here in
      let c = within-comparison.most (drop l.taken s) m.given m.taken m.here in
      record {
        least = omega (arith, comparison-least (drop l.taken s) m.given m.taken m.here);
        within = omega (arith, length-drop l.taken s);
        terms = omega (arith, ap (λ (x : Row). length x.terms) z.0);
      }

  pub goal-taken : goal o s ≡ got r n → RowTaken s r n
  unfolding goal
  goal-taken e =
      let i = chain-linked min_blanks _ s r n e in
      let l = chain-linked (sum o) _ (drop i.taken s) r i.behind i.there in
      let m = chain-linked ending _ (drop l.taken (drop i.taken s)) r l.behind l.there in
      let z = finished-got o _ _ _ l.given (drop m.taken (drop l.taken (drop i.taken s))) r m.behind m.there in
      let w = sum-within o (drop i.taken s) l.given l.taken l.here in
      let c = within-ending.most (drop l.taken (drop i.taken s)) m.given m.taken m.here in
      let b = within-min-blanks.most s i.given i.taken i.here in
      record {
        least = omega (arith, min-blanks-least s i.given i.taken i.here);
        within = omega (arith, length-drop i.taken s, length-drop l.taken (drop i.taken s));
        terms = omega (arith, ap (λ (x : Row). length x.terms) z.0);
      }

-- ---- comments
pub remark-taken : (s : List ℕ) (l : Line) (n : ℕ) → remark s ≡ got l n → (0 < n) × (n ≤ length s) × (terms_of l ≡ [])
unfolding remark
remark-taken [] l n e = never cc
remark-taken (b ∷ s) l n e =
    let m : 1 + until_ending s + line_ending (drop (until_ending s) s) ≡ n = cc in
    let c : comment (1 + space_after s) (until_ending s - space_after s) (pos 0) ≡ l = cc in
    (omega arith, omega (arith, until-within s, ending-within (drop (until_ending s) s), length-drop (until_ending s) s), sym (ap terms_of c))

-- ---- statements
module _ (o : Options) where
  -- what a statement of n bytes has: a byte, no more than there are, and no more terms than bytes
  pub record LineTaken (s : List ℕ) (l : Line) (n : ℕ) : Type 0 where
    pub least : 0 < n
    pub within : n ≤ length s
    pub terms : length (terms_of l) ≤ n

  row-taken : (p : Reader Row) (s : List ℕ) (l : Line) (n : ℕ) → ((r : Row) (m : ℕ) → p s ≡ got r m → RowTaken s r m)
      → chain p as_line s ≡ got l n → LineTaken s l n
  unfolding done
  row-taken p s l n f e =
      let k = chain-linked p as_line s l n e in
      let q = k.total in
      let t = f k.given k.taken k.here in
      let d : got (row k.given) 0 ≡ got l k.behind = k.there in
      let z : 0 ≡ k.behind = cc in
      let c : row k.given ≡ l = cc in
      record {
        least = omega arith;
        within = omega arith;
        terms = rw (← c) (omega arith);
      }

  statement-by-taken : (b : Beginning) (s : List ℕ) (l : Line) (n : ℕ) → statement_by b o s ≡ got l n → LineTaken s l n
  unfolding fail
  statement-by-taken Comment s l n e =
      let t = remark-taken s l n e in
      record { least = t.0; within = t.1; terms = rw t.2 (omega arith) }
  statement-by-taken Objective s l n e = row-taken (goal o) s l n (λ r m q. goal-taken o s r m q) e
  statement-by-taken Constraint s l n e = row-taken (constraint o) s l n (λ r m q. constraint-taken o s r m q) e
  statement-by-taken Nothing s l n e = never cc

  after-blanks-item : (k : ℕ) (g : Got Line) (s : List ℕ) (l : Line) (n : ℕ) → ((l' : Line) (m : ℕ) → g ≡ got l' m → LineTaken s l' m)
      → after_blanks k g ≡ item l n
      → (0 < n) × (n ≤ k + length s) × (length (terms_of l) ≤ n)
  after-blanks-item k (none x) s l n f e = never cc
  after-blanks-item k (got (comment a b c) m) s l n f e =
      let t = f (comment a b c) m refl in
      let x : comment (k + a) b c ≡ l = cc in
      let y : k + m ≡ n = cc in
      (omega arith, omega arith, rw (← x) (omega arith))
  after-blanks-item k (got (row r) m) s l n f e =
      let t = f (row r) m refl in
      let x : row r ≡ l = cc in
      let y : k + m ≡ n = cc in
      (omega arith, omega arith, rw (← x) (omega arith))

  statement-at-item : (k : ℕ) (s : List ℕ) (l : Line) (n : ℕ) → statement_at o k s ≡ item l n
      → (0 < n) × (n ≤ k + length s) × (length (terms_of l) ≤ n)
  unfolding statement_at
  statement-at-item k [] l n e = never cc
  statement-at-item k (b ∷ s) l n e =
      after-blanks-item k (statement_by (begins (class_of b)) o (b ∷ s)) (b ∷ s) l n (statement-by-taken (begins (class_of b)) (b ∷ s)) e

  pub statement-taken : (s : List ℕ) (l : Line) (n : ℕ) → statement o s ≡ item l n → LineTaken s l n
  unfolding statement
  statement-taken s l n e =
      let t = statement-at-item (blanks s) (drop (blanks s) s) l n e in
      record { least = t.0; within = omega (arith, t.1, length-drop (blanks s) s, blanks-within s); terms = t.2 }

  pub statement-moves : Moves (statement o)
  statement-moves =
      record {
        none = nothing;
        least = λ s l n e. (statement-taken s l n e).least;
        most = λ s l n e. (statement-taken s l n e).within;
      }
    where
      nothing : statement o [] ≡ stop
      nothing = unfold statement statement_at blanks in refl
