-- Is a row's text read as the row? Sums, comparisons, constraints and objectives, whatever stands behind them; first
-- for any text that the grammar allows, then as they are written.
use Prim.Native.Nat.{ℕ, ◌+◌, ◌≤◌}
use mathlib.Core.Path.{◌≡◌, refl, ap}
use mathlib.Core.Bool.{Bool, true, false}
use mathlib.Core.List.{List, [], ◌∷◌, ◌++◌, map, append_assoc, append-nil}
use native.Mathlib.Omega.{arith}
use borrow.Author.Tests.{le-leb}
use lib.ListN.{length}
use lib.IntN.{ℤ, pos}
use mir.Syntax.{w64}
use mir.Val.{SFits}
use Rattle.definitions.specs.Lists.{joined, starts_with, AllOf}
use Rattle.definitions.specs.Limits.{weight_limit}
use Rattle.definitions.specs.Bytes.{min_text, blanks, space}
use Rattle.definitions.specs.Number.{leading, number, integer_text}
use Rattle.definitions.specs.Walk.{anywhere}
use Rattle.definitions.specs.Row.{Term, Kind, objective, row_of, sizes}
use Rattle.definitions.specs.Text.{gap, weighted, begins_term, as_step, term_step, as_got, sum, operator, ending, comparison_of}
use Rattle.definitions.specs.Text.{comparison, kind_of, bound_of, finished, constraint, min_word, min_blanks, goal}
use Rattle.definitions.specs.Write.{term_text, spaced, apart, closed, comparison_text}
use Rattle.definitions.specs.declared.Options.{Options}
use Rattle.definitions.specs.declared.OpbOperator.{OpbOperator}
use Rattle.definitions.proofs.Whole.{in-true}
use Rattle.definitions.proofs.Numbers.{read-of-printed}
use Rattle.definitions.proofs.Statements.{term-moves}
use Rattle.definitions.proofs.KnownTexts.{Taken, taken-one, taken_none, taken-both, taken-all, found_from, taken-list}
use Rattle.definitions.proofs.Readback.{Reads, reads-chain, reads_end, reads-done, begun-no-blank, number-begins, reads-gap}
use Rattle.definitions.proofs.Readback.{one-space, GoodTerm, reads-term, reads-ending}

-- ---- sums

module _ (o : Options) where
  taken-term : (x rest : List ℕ) (t : Term) → begins_term (x ++ rest) ≡ true → Reads (weighted o) x rest t
      → Taken (term_step o) anywhere x (λ at. t ∷ []) rest
  unfolding term_step
  taken-term x rest t b r = taken-one (term_step o) anywhere (term-moves o) x rest t (rw (b, term_step) (ap as_step r.reads))

  -- the terms end where no number begins
  reads-sum : (x rest : List ℕ) (f : ℕ → List Term) → Taken (term_step o) anywhere x f rest → begins_term rest ≡ false
      → Reads (sum o) x rest (f 0)
  unfolding sum term_step
  reads-sum x rest f t e = record { reads = ap as_got (taken-all (term_step o) anywhere (term-moves o) x rest f t (rw (e, term_step))) }

  pub reads-no-terms : (rest : List ℕ) → begins_term rest ≡ false → Reads (sum o) [] rest []
  reads-no-terms rest e = reads-sum [] rest (λ at. []) (taken_none (term_step o) anywhere (term-moves o) rest) e

  -- terms that end in blanks, one after the other
  module _ {B : Type 0} (text : B → List ℕ) (means : B → Term) (Good : B → Type 0)
      (begins : (b : B) (rest : List ℕ) → Good b → begins_term (text b ++ rest) ≡ true)
      (reads : (b : B) (rest : List ℕ) → Good b → blanks rest ≡ 0 → Reads (weighted o) (text b) rest (means b)) where
    one : ℕ → B → List Term
    one at b = means b ∷ []

    found-terms : (at : ℕ) (bs : List B) → found_from text one at bs ≡ map means bs
    unfolding found_from one
    found-terms at [] = refl
    found-terms at (b ∷ bs) = ap (λ (l : List Term). means b ∷ l) (found-terms (at + length (text b)) bs)

    pub reads-terms : (bs : List B) (rest : List ℕ) → AllOf Good bs → blanks rest ≡ 0 → begins_term rest ≡ false
        → Reads (sum o) (joined text bs) rest (map means bs)
    unfolding one
    reads-terms bs rest g h n =
        rw (found-terms 0 bs) at
        (reads-sum (joined text bs) rest (λ at. found_from text one at bs)
        (taken-list (term_step o) anywhere (term-moves o) text one Good (λ s. blanks s ≡ 0)
        (λ b s q e. taken-term (text b) s (means b) (begins b s q) (reads b s q e))
        (λ b s q e. begun-no-blank (text b ++ s) (begins b s q)) bs rest g h) n)

-- ---- rows

-- an operator, blanks, a number, an ending
pub reads-comparison : (x g n e : List ℕ) {rest : List ℕ} {p : OpbOperator} {b : ℤ} {k : ℕ} {c : Bool}
    → Reads operator x ((g ++ (n ++ e)) ++ rest) p → Reads gap g ((n ++ e) ++ rest) k → Reads number n (e ++ rest) b
    → Reads ending e rest c → Reads comparison (x ++ (g ++ (n ++ e))) rest (comparison_of p b c)
unfolding comparison
reads-comparison x g n e {rest} u v w z =
    reads-chain _ x (g ++ (n ++ e)) u (reads-chain _ g (n ++ e) v (reads-chain _ n e w (reads_end _ e z (reads-done _ rest))))

reads-finished : (o : Options) (c : Bool) (k : Kind) (b : ℤ) (ts : List Term) (rest : List ℕ) → sizes ts ≤ weight_limit → SFits w64 b
    → Reads (finished o c k b ts) [] rest (row_of k b ts)
unfolding finished
reads-finished o c k b ts rest h f = record { reads = rw (le-leb (sizes ts) weight_limit h, in-true b f) }

-- `min:`, blanks
reads-min : (g rest : List ℕ) → blanks (g ++ rest) ≡ length g → Reads min_blanks (min_text ++ g) rest (length g)
unfolding min_blanks min_word starts_with
reads-min g rest e = reads-chain _ min_text g (record { reads = refl }) (reads-gap g rest e)

module _ (o : Options) where
  pub reads-constraint : (x y : List ℕ) {rest : List ℕ} {ts : List Term} {p : OpbOperator} {b : ℤ} {c : Bool}
      → Reads (sum o) x (y ++ rest) ts → Reads comparison y rest (comparison_of p b c)
      → sizes ts ≤ weight_limit → SFits w64 (bound_of p b) → Reads (constraint o) (x ++ y) rest (row_of (kind_of p) (bound_of p b) ts)
  unfolding constraint
  reads-constraint x y {rest} {ts} {p} {b} {c} u v h f =
      reads-chain _ x y u (reads_end _ y v (reads-finished o c (kind_of p) (bound_of p b) ts rest h f))

  pub reads-goal : (g x e : List ℕ) {rest : List ℕ} {ts : List Term} {c : Bool} → blanks (g ++ ((x ++ e) ++ rest)) ≡ length g
      → Reads (sum o) x (e ++ rest) ts → Reads ending e rest c
      → sizes ts ≤ weight_limit → Reads (goal o) ((min_text ++ g) ++ (x ++ e)) rest (row_of objective (pos 0) ts)
  unfolding goal
  reads-goal g x e {rest} {ts} {c} q u v h =
      reads-chain _ (min_text ++ g) (x ++ e) (reads-min g ((x ++ e) ++ rest) q)
      (reads-chain _ x e u (reads_end _ e v (reads-finished o c objective (pos 0) ts rest h (record { sfits = omega arith }))))

-- ---- as they are written

map_same : (ts : List Term) → map (λ (t : Term). t) ts ≡ ts
map_same [] = refl
map_same (t ∷ ts) = ap (λ (l : List Term). t ∷ l) (map_same ts)

module _ (o : Options) where
  -- a term begins with its weight
  pub term-begins : (t : Term) (rest : List ℕ) → begins_term (term_text o.first t ++ rest) ≡ true
  unfolding term_text
  term-begins t rest = rw append_assoc (number-begins t.weight _)

  term-clear : (t : Term) (rest : List ℕ) → blanks (term_text o.first t ++ rest) ≡ 0
  term-clear t rest = begun-no-blank (term_text o.first t ++ rest) (term-begins t rest)

  pub spaced-begins : (t : Term) (rest : List ℕ) → begins_term (spaced o.first t ++ rest) ≡ true
  unfolding spaced
  spaced-begins t rest = rw append_assoc (term-begins t _)

  -- a space behind each
  reads-spaced : (ts : List Term) (rest : List ℕ) → AllOf (GoodTerm o.first) ts → blanks rest ≡ 0 → begins_term rest ≡ false
      → Reads (sum o) (joined (spaced o.first) ts) rest ts
  unfolding spaced leading
  reads-spaced ts rest g h n =
      rw (map_same ts) at
      (reads-terms o (spaced o.first) (λ t. t) (GoodTerm o.first) (λ t s q. spaced-begins t s)
      (λ t s q e. reads-term o t (space ∷ []) s q refl (one-space s e)) ts rest g h n)

  -- a space before each but the first
  taken-apart : (t : Term) (ts : List Term) (rest : List ℕ) → GoodTerm o.first t → AllOf (GoodTerm o.first) ts
      → leading rest ≡ [] → blanks rest ≡ 0
      → Taken (term_step o) anywhere (term_text o.first t ++ joined (apart o.first) ts) (λ at. t ∷ ts) rest
  unfolding joined apart leading
  taken-apart t [] rest g gs e h =
      taken-term o (term_text o.first t ++ []) rest t (rw append-nil (term-begins t rest)) (reads-term o t [] rest g e h)
  taken-apart t (u ∷ ts) rest g gs e h =
      let x = term_text o.first t in
      let y = term_text o.first u ++ joined (apart o.first) ts in
      let clear : blanks (y ++ rest) ≡ 0 = rw append_assoc (term-clear u _) in
      rw (append_assoc x (space ∷ []) y) at
      (taken-both (term_step o) anywhere (term-moves o) (x ++ (space ∷ [])) y rest (λ at. t ∷ []) (λ at. u ∷ ts)
      (taken-term o (x ++ (space ∷ [])) (y ++ rest) t (rw (append_assoc x (space ∷ []) (y ++ rest)) (term-begins t _))
      (reads-term o t (space ∷ []) (y ++ rest) g refl (one-space (y ++ rest) clear)))
      (taken-apart u ts rest gs.0 gs.1 e h))

  -- a constraint, at an operator whose bound is the one that is written
  module _ (p : OpbOperator) (x : List ℕ) (reads-operator : (rest : List ℕ) → Reads operator x rest p)
      (no-term : (y : List ℕ) → begins_term (x ++ y) ≡ false) (no-blank : (y : List ℕ) → blanks (x ++ y) ≡ 0) where
    pub reads-written : (ts : List Term) (b : ℤ) (rest : List ℕ) → bound_of p b ≡ b → AllOf (GoodTerm o.first) ts
        → sizes ts ≤ weight_limit → SFits w64 b
        → Reads (constraint o) (joined (spaced o.first) ts ++ comparison_text x b) rest (row_of (kind_of p) b ts)
    unfolding comparison_text leading blanks
    reads-written ts b rest e g h f =
        let y : List ℕ = x ++ (space ∷ (integer_text b ++ closed)) in
        rw e at
        (reads-constraint o (joined (spaced o.first) ts) y
        (reads-spaced ts (y ++ rest) g (rw append_assoc (no-blank _)) (rw append_assoc (no-term _)))
        (reads-comparison x (space ∷ []) (integer_text b) closed (reads-operator _)
        (reads-gap (space ∷ []) ((integer_text b ++ closed) ++ rest)
        (one-space ((integer_text b ++ closed) ++ rest) (rw append_assoc (begun-no-blank _ (number-begins b _)))))
        (record { reads = read-of-printed b _ f refl }) (reads-ending [] rest refl))
        h (rw e f))

  -- an objective
  pub reads-written-goal : (ts : List Term) (rest : List ℕ) → AllOf (GoodTerm o.first) ts → sizes ts ≤ weight_limit
      → Reads (goal o) (min_text ++ (joined (apart o.first) ts ++ closed)) rest (row_of objective (pos 0) ts)
  unfolding joined apart blanks begins_term leading
  reads-written-goal [] rest g h = reads-goal o [] [] closed refl (reads-no-terms o (closed ++ rest) refl) (reads-ending [] rest refl) h
  reads-written-goal (t ∷ ts) rest g h =
      let x = term_text o.first t ++ joined (apart o.first) ts in
      let clear : blanks ((x ++ closed) ++ rest) ≡ 0 =
      simp append_assoc (term-clear t (joined (apart o.first) ts ++ (closed ++ rest))) in
      reads-goal o (space ∷ []) x closed (one-space ((x ++ closed) ++ rest) clear)
      (reads-sum o x (closed ++ rest) (λ at. t ∷ ts) (taken-apart t ts (closed ++ rest) g.0 g.1 refl refl) refl)
      (reads-ending [] rest refl) h
