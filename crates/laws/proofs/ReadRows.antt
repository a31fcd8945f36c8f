-- What is known of rows that were read? Each weight is within 64 bits, each index and its file number within their
-- limits, absolute weights are at most M, and the bound is within 64 bits.
use Prim.Native.Nat.{ℕ, ◌+◌, ◌-◌, ◌≤◌}
use mathlib.Core.Path.{◌≡◌, refl, sym, ap, ◌∙◌}
use mathlib.Core.Bool.{Bool, true, false, ◌&&◌, ◌||◌}
use mathlib.Core.List.{List, [], ◌∷◌}
use native.Mathlib.Omega.{arith}
use borrow.Author.Tests.{leb-true, le-leb}
use lib.Dec.{leb, eqb}
use lib.ListN.{length, drop}
use lib.IntN.{ℤ}
use mir.Syntax.{w64}
use mir.Val.{SFits}
use Rattle.definitions.specs.Lists.{AllOf}
use Rattle.definitions.specs.Limits.{weight_limit, index_limit, file_number_limit, in_i64}
use Rattle.definitions.specs.Refusal.{Checked, refuse, accept, fault, fault_of}
use Rattle.definitions.specs.Bytes.{blanks, begins, class_of, letter_x, tilde, minus}
use Rattle.definitions.specs.Reader.{Got, none, got, Reader, more, chain, done, fail}
use Rattle.definitions.specs.Number.{leading, value, number}
use Rattle.definitions.specs.Literal.{index, index_of, is_index, code_of, file_number}
use Rattle.definitions.specs.Walk.{stop, item, Walked, broken, items, all, anywhere}
use Rattle.definitions.specs.Row.{Term, term, Row, row_of, Line, comment, row, sizes}
use Rattle.definitions.specs.declared.Kind.{Kind}
use Rattle.definitions.specs.Table.{indexed}
use Rattle.definitions.specs.Text.{gap, gap1, code_by, digits, variable, literal, after_weight, weighted, term_step, as_got, sum}
use Rattle.definitions.specs.Text.{comparison, finished, constraint, ending, min_blanks, goal, remark, as_line, statement_by}
use Rattle.definitions.specs.Text.{after_blanks, statement_at, statement, in_file}
use Rattle.definitions.specs.File.{statements}
use Rattle.definitions.specs.Write.{numbered}
use Rattle.definitions.specs.declared.Options.{Options}
use Rattle.definitions.specs.declared.Beginning.{Beginning}
use Rattle.definitions.specs.declared.Beginning.TheVariants.{Comment, Objective, Constraint, Nothing}
use Rattle.definitions.proofs.Readback.{GoodTerm}
use Rattle.definitions.proofs.Truths.{never, both, cond-holds}
use Rattle.definitions.proofs.Whole.{true-in}
use Rattle.definitions.proofs.Numbers.{number_fits}
use Rattle.definitions.proofs.Chains.{chain-linked}
use Rattle.definitions.proofs.Walks.{all-ended}
use Rattle.definitions.proofs.Statements.{term-step-item}
use Rattle.laws.proofs.Tables.{Indexed, Numbered}

pub record GoodRow (first : ℕ) (r : Row) : Type 0 where
  pub each : AllOf (GoodTerm first) r.terms
  pub total : sizes r.terms ≤ weight_limit
  pub fits : SFits w64 r.bound

abbrev pub GoodLine : ℕ → Line → Type 0
GoodLine first (comment f n b) = Unit {0}
GoodLine first (row r) = GoodRow first r

-- ---- literals

-- an index that a file number has: within its limit, and so is the number
abbrev Within : ℕ → ℕ → Type 0
Within first v = (v ≤ index_limit) × (v + first ≤ file_number_limit)

Limited : ℕ → Got ℕ → Type 0
Limited first (none e) = Unit {0}
Limited first (got c n) = Within first (index_of c)

limited-more : (first : ℕ) (g : Got ℕ) → Limited first g → Limited first (more 1 g)
unfolding Limited
limited-more first (none e) h = tt
limited-more first (got c n) h = h

pub index-of-code : (negative : Bool) (v : ℕ) → index_of (code_of negative v) ≡ v
index-of-code true v = omega arith
index-of-code false v = omega arith

index-limited : (first n v : ℕ) → index first n ≡ accept v → Within first v
unfolding index
index-limited first n v e = by (leb n file_number_limit && (leb first n && is_index (n - first))) refl
  where
    by : (b : Bool) → (leb n file_number_limit && (leb first n && is_index (n - first))) ≡ b → Within first v
    by true q =
        let c : accept (n - first) ≡ accept v = sym (rw q) ∙ e in
        let d : n - first ≡ v = cc in
        let g = both (leb n file_number_limit) (leb first n && is_index (n - first)) q in
        let h = both (leb first n) (is_index (n - first)) g.1 in
        (omega (arith, leb-true (n - first) index_limit h.1), omega (arith, leb-true n file_number_limit g.0, leb-true first n h.0))
    by false q = let c : refuse 5 ≡ accept v = sym (rw q) ∙ e in never cc

limited-code : (first : ℕ) (negative : Bool) (n : ℕ) (c : Checked ℕ) → ((v : ℕ) → c ≡ accept v → Within first v)
    → Limited first (code_by negative n c)
unfolding Limited
limited-code first negative n (refuse e) f = tt
limited-code first negative n (accept v) f = rw (index-of-code negative v) (f v refl)

module _ (o : Options) where
  limited-digits : (negative : Bool) (s : List ℕ) → Limited o.first (digits o negative s)
  unfolding digits Limited
  limited-digits negative s =
      cond-holds (eqb (length (leading s)) 0) (none (fault 4)) (code_by negative (length (leading s)) (index o.first (value (leading s))))
      (Limited o.first) tt
      (limited-code o.first negative (length (leading s)) (index o.first (value (leading s)))
      (index-limited o.first (value (leading s))))

  limited-variable : (negative : Bool) (s : List ℕ) → Limited o.first (variable o negative s)
  unfolding variable Limited
  limited-variable negative [] = tt
  limited-variable negative (b ∷ s) =
      cond-holds (eqb b letter_x) (more 1 (digits o negative s)) (none (fault 4)) (Limited o.first)
      (limited-more o.first (digits o negative s) (limited-digits negative s)) tt

  limited-literal : (s : List ℕ) → Limited o.first (literal o s)
  unfolding literal Limited
  limited-literal [] = tt
  limited-literal (b ∷ s) =
      cond-holds (eqb b tilde || eqb b minus) (more 1 (variable o true s)) (variable o false (b ∷ s)) (Limited o.first)
      (limited-more o.first (variable o true s) (limited-variable true s)) (limited-variable false (b ∷ s))

  literal-limited : (s : List ℕ) (c n : ℕ) → literal o s ≡ got c n → Within o.first (index_of c)
  unfolding Limited
  literal-limited s c n e = rw e at (limited-literal s)

  -- ---- terms
  pub weighted-good : (s : List ℕ) (t : Term) (n : ℕ) → weighted o s ≡ got t n → GoodTerm o.first t
  unfolding weighted after_weight done
  weighted-good s t n e =
      let a = chain-linked number _ s t n e in
      let b = chain-linked gap1 _ (drop a.taken s) t a.behind a.there in
      let c = chain-linked (literal o) _ (drop b.taken (drop a.taken s)) t b.behind b.there in
      let d = chain-linked gap _ (drop c.taken (drop b.taken (drop a.taken s))) t c.behind c.there in
      let f : got (term a.given c.given) 0 ≡ got t d.behind = d.there in
      let same : term a.given c.given ≡ t = cc in
      let w = literal-limited _ c.given c.taken c.here in
      rw (← same) (record { fits = number_fits s a.here; index = w.0; number = w.1 })

  sum-good : (s : List ℕ) (ts : List Term) (n : ℕ) → sum o s ≡ got ts n → AllOf (GoodTerm o.first) ts
  unfolding sum
  sum-good s ts n e = by (all (term_step o) anywhere s) refl
    where
      by : (w : Walked Term) → all (term_step o) anywhere s ≡ w → AllOf (GoodTerm o.first) ts
      by (broken r) q = let c : none (fault_of r) ≡ got ts n = ap as_got (sym q) ∙ e in never cc
      by (items xs m) q =
          let c : got xs m ≡ got ts n = ap as_got (sym q) ∙ e in
          let x : xs ≡ ts = cc in
          rw (← x) (all-ended (term_step o) anywhere (GoodTerm o.first)
          (λ s' t k at i. weighted-good s' t k (term-step-item o s' t k i)) s xs m q).1

  -- ---- rows
  finished-good : (c : Bool) (k : Kind) (b : ℤ) (ts : List Term) (s : List ℕ) (r : Row) (n : ℕ) → AllOf (GoodTerm o.first) ts
      → finished o c k b ts s ≡ got r n → GoodRow o.first r
  unfolding finished
  finished-good c k b ts s r n g e = by (leb (sizes ts) weight_limit && in_i64 b) refl
    where
      by : (x : Bool) → (leb (sizes ts) weight_limit && in_i64 b) ≡ x → GoodRow o.first r
      by true q =
          let c : got (row_of k b ts) 0 ≡ got r n = sym (rw q) ∙ e in
          let same : row_of k b ts ≡ r = cc in
          let h = both (leb (sizes ts) weight_limit) (in_i64 b) q in
          rw (← same) (record { each = g; total = leb-true (sizes ts) weight_limit h.0; fits = true-in b h.1 })
      by false q = let c : none (fault 8) ≡ got r n = sym (rw q) ∙ e in never cc

  constraint-good : (s : List ℕ) (r : Row) (n : ℕ) → constraint o s ≡ got r n → GoodRow o.first r
  unfolding constraint
  constraint-good s r n e =
      let l = chain-linked (sum o) _ s r n e in
      let m = chain-linked comparison _ (drop l.taken s) r l.behind l.there in
      finished-good _ _ _ l.given _ r m.behind (sum-good s l.given l.taken l.here) m.there

  goal-good : (s : List ℕ) (r : Row) (n : ℕ) → goal o s ≡ got r n → GoodRow o.first r
  unfolding goal
  goal-good s r n e =
      let i = chain-linked min_blanks _ s r n e in
      let l = chain-linked (sum o) _ (drop i.taken s) r i.behind i.there in
      let m = chain-linked ending _ (drop l.taken (drop i.taken s)) r l.behind l.there in
      finished-good _ _ _ l.given _ r m.behind (sum-good _ l.given l.taken l.here) m.there

  -- ---- statements
  line-good : (p : Reader Row) (s : List ℕ) (l : Line) (n : ℕ) → ((r : Row) (m : ℕ) → p s ≡ got r m → GoodRow o.first r)
      → chain p as_line s ≡ got l n → GoodLine o.first l
  unfolding done
  line-good p s l n f e =
      let k = chain-linked p as_line s l n e in
      let d : got (row k.given) 0 ≡ got l k.behind = k.there in
      let c : row k.given ≡ l = cc in
      rw (← c) (f k.given k.taken k.here)

  remark-good : (s : List ℕ) (l : Line) (n : ℕ) → remark s ≡ got l n → GoodLine o.first l
  unfolding remark
  remark-good [] l n e = never cc
  remark-good (b ∷ s) (comment f k c) n e = tt
  remark-good (b ∷ s) (row r) n e = never cc

  by-good : (b : Beginning) (s : List ℕ) (l : Line) (n : ℕ) → statement_by b o s ≡ got l n → GoodLine o.first l
  unfolding fail
  by-good Comment s l n e = remark-good s l n e
  by-good Objective s l n e = line-good (goal o) s l n (goal-good s) e
  by-good Constraint s l n e = line-good (constraint o) s l n (constraint-good s) e
  by-good Nothing s l n e = never cc

  after-good : (k : ℕ) (g : Got Line) (l : Line) (n : ℕ) → ((l' : Line) (m : ℕ) → g ≡ got l' m → GoodLine o.first l')
      → after_blanks k g ≡ item l n → GoodLine o.first l
  after-good k (none x) l n f e = never cc
  after-good k (got (comment a b c) m) l n f e = let x : comment (k + a) b c ≡ l = cc in rw (← x) tt
  after-good k (got (row r) m) l n f e = let x : row r ≡ l = cc in rw (← x) (f (row r) m refl)

  pub statement-good : (s : List ℕ) (l : Line) (n : ℕ) → statement o s ≡ item l n → GoodLine o.first l
  unfolding statement
  statement-good s l n e = at (drop (blanks s) s) e
    where
      at : (r : List ℕ) → statement_at o (blanks s) r ≡ item l n → GoodLine o.first l
      at [] q = let z : stop ≡ item l n = unfold statement_at in q in never cc
      at (b ∷ r) q =
          after-good (blanks s) (statement_by (begins (class_of b)) o (b ∷ r)) l n (by-good (begins (class_of b)) (b ∷ r))
          (unfold statement_at in q)

  in-file-good : (at : ℕ) (l : Line) → GoodLine o.first l → GoodLine o.first (in_file at l)
  in-file-good at (comment f n b) g = tt
  in-file-good at (row r) g = g

  -- all that a file's statements give
  pub statements-good : (s : List ℕ) (ls : List Line) (n : ℕ) → statements o s ≡ items ls n → AllOf (GoodLine o.first) ls
  unfolding statements
  statements-good s ls n e =
      (all-ended (statement o) in_file (GoodLine o.first) (λ s' l k at i. in-file-good at l (statement-good s' l k i)) s ls n e).1

-- ---- so a table that was read holds the rows that were read, and each has its file numbers
terms-indexed : (first : ℕ) (ts : List Term) → AllOf (GoodTerm first) ts → indexed ts ≡ true
unfolding indexed
terms-indexed first [] g = refl
terms-indexed first (t ∷ ts) g = rw (le-leb (index_of t.code) index_limit g.0.index) (terms-indexed first ts g.1)

pub good-indexed : (first : ℕ) (ls : List Line) → AllOf (GoodLine first) ls → AllOf Indexed ls
unfolding indexed
good-indexed first [] g = tt
good-indexed first (comment f n b ∷ ls) g = (refl, good-indexed first ls g.1)
good-indexed first (row r ∷ ls) g = (terms-indexed first r.terms g.0.each, good-indexed first ls g.1)

terms-numbered : (first : ℕ) (ts : List Term) → AllOf (GoodTerm first) ts → numbered first ts ≡ true
unfolding numbered file_number
terms-numbered first [] g = refl
terms-numbered first (t ∷ ts) g = rw (le-leb (index_of t.code + first) file_number_limit g.0.number) (terms-numbered first ts g.1)

pub good-numbered : (first : ℕ) (ls : List Line) → AllOf (GoodLine first) ls → AllOf (Numbered first) ls
unfolding numbered
good-numbered first [] g = tt
good-numbered first (comment f n b ∷ ls) g = (refl, good-numbered first ls g.1)
good-numbered first (row r ∷ ls) g = (terms-numbered first r.terms g.0.each, good-numbered first ls g.1)
