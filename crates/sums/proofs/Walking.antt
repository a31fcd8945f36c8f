-- What the walk over a sum has counted and put so far: the loop invariant of `weighted_lit_sum` as a record, and what a
-- term adds to it. Before that, what holds of any column.
use Prim.Native.Nat.{ℕ, ◌+◌, ◌≤◌, ◌<◌, min}
use mathlib.Core.Path.{◌≡◌, refl, sym, ap, ◌∙◌}
use mathlib.Core.Bool.{Bool, true, false, cond}
use mathlib.Core.List.{List, [], ◌∷◌, ◌++◌, map, append_assoc, append-nil}
use native.Mathlib.Omega.{arith}
use native.Mathlib.Decide.{dec_lt}
use borrow.Author.Tests.{lt-ltb, le-ltb}
use lib.Dec.{ltb}
use lib.ListN.{length, take, drop, set, length-append, length-set}
use lib.Seq.{take_all, take-nil, take-append-le, drop-drop}
use lib.IntN.{ℤ, nat_abs}
use Rattle.definitions.specs.Refusal.{fault_of}
use Rattle.definitions.specs.declared.Refusal.{Refusal}
use Rattle.definitions.specs.Lists.{over}
use Rattle.definitions.specs.Row.{Term, weight_of, literal_of}
use Rattle.definitions.specs.Stepping.{columns_room}
use Rattle.definitions.specs.Text.{term_step}
use Rattle.definitions.specs.Walk.{stop, bad, item}
use Rattle.definitions.specs.declared.Options.{Options}
use Rattle.definitions.proofs.Columns.{column-more}
use Rattle.definitions.proofs.Statements.{term-moves}
use Rattle.term_checks.specs.Sizes.{capped}
use Rattle.sums.specs.Met.{met_from, met_terms}
use Rattle.sums.specs.Walked.{TermsPut, TermPut, SumWalked}
use Rattle.std.specs.Prelude.{Ok, Err}
use Rattle.sums.proofs.MetTerms.{met-stop, met-bad, met-item}
use Rattle.sums.proofs.Sums.{Summing, summing_start, summing-stop, summing-bad, summing-term}

-- ---- a term put into two columns

module _ (at : ℕ) (z : ℤ) (n : ℕ) (w : List ℤ) (l : List ℕ) where
  pub put-there : at < min (length w) (length l) → TermPut at z n w l (set w at z) (set l at n)
  put-there h =
      record { weights = rw (lt-ltb at (min (length w) (length l)) h); literals = rw (lt-ltb at (min (length w) (length l)) h) }

  pub put-nowhere : min (length w) (length l) ≤ at → TermPut at z n w l w l
  put-nowhere h =
      record { weights = rw (le-ltb at (min (length w) (length l)) h); literals = rw (le-ltb at (min (length w) (length l)) h) }

  module _ (w' : List ℤ) (l' : List ℕ) (p : TermPut at z n w l w' l') where
    pub put-lengths : (length w' ≡ length w) × (length l' ≡ length l)
    put-lengths = (
      ap length p.weights ∙ same w z (ltb at (min (length w) (length l))),
      ap length p.literals ∙ same l n (ltb at (min (length w) (length l))),
    )
      where
        same : {A : Type 0} (x : List A) (a : A) (b : Bool) → length (cond b (set x at a) x) ≡ length x
        same x a true = length-set x at a
        same x a false = refl

-- the first terms of a column, as far as there is room, and one more
module _ {B : Type 0} (f : Term → B) (room at : ℕ) (pre : List Term) (t : Term) (l₀ l l' : List B) where
  pub room-more : at ≡ length pre → room ≤ length l₀ → l ≡ over (map f (take room pre)) l₀ → l' ≡ cond (ltb at room) (set l at (f t)) l
      → l' ≡ over (map f (take room (pre ++ (t ∷ [])))) l₀
  room-more q h e p = by (dec_lt at room)
    where
      by : Dec (at < room) → l' ≡ over (map f (take room (pre ++ (t ∷ [])))) l₀
      by (yes k) =
          let a : take room pre ≡ pre = take_all room pre (omega arith) in
          let b : take room (pre ++ (t ∷ [])) ≡ pre ++ (t ∷ []) =
          take_all room (pre ++ (t ∷ [])) (omega (arith, length-append pre (t ∷ []))) in
          p ∙ rw (lt-ltb at room k, b) (column-more f pre l₀ l (e ∙ ap (λ (x : List Term). over (map f x) l₀) a) at t q (omega arith))
      by (no k) = p ∙ rw (le-ltb at room (omega arith), take-append-le room pre (t ∷ []) (omega arith)) e

-- ---- the walk over a sum: what is counted of it, and which of its terms are put
module _ (o : Options) (s : List ℕ) (w₀ : List ℤ) (l₀ : List ℕ) where
  pub record Walking (at count size : ℕ) (w : List ℤ) (l : List ℕ) : Type 0 where
    pub summing : Summing o s at count size
    pub met : met_terms o s ≡ summing.terms ++ met_from (term_step o) (drop at s) 0
    pub weights : length w ≡ length w₀
    pub literals : length l ≡ length l₀
    pub put : TermsPut summing.terms w₀ l₀ w l

  pub walking_start : Walking 0 0 0 w₀ l₀
  unfolding summing_start
  walking_start =
      record {
        summing = summing_start o s;
        met = refl;
        weights = refl;
        literals = refl;
        put = rw (take-nil {A = Term} (columns_room w₀ l₀)) (record { weights = refl; literals = refl });
      }

  module _ (at count size : ℕ) (w : List ℤ) (l : List ℕ) (i : Walking at count size w l) where
    -- no term more is met
    ended : met_from (term_step o) (drop at s) 0 ≡ [] → TermsPut (met_terms o s) w₀ l₀ w l
    ended e = rw (i.met ∙ ap (λ (x : List Term). i.summing.terms ++ x) e ∙ append-nil i.summing.terms) i.put

    pub walking-stop : term_step o (drop at s) ≡ stop → SumWalked o s w₀ l₀ (Ok (record { terms = count; size = size; taken = at })) w l
    walking-stop e =
        record { answer = summing-stop o s at count size i.summing e; filled = ended (met-stop (term_step o) (drop at s) e) }

    pub walking-bad : (r : Refusal) → term_step o (drop at s) ≡ bad r → SumWalked o s w₀ l₀ (Err (fault_of r)) w l
    walking-bad r e =
        record { answer = summing-bad o s at count size i.summing r e; filled = ended (met-bad (term_step o) (drop at s) r e) }

    -- one term more
    pub walking-term : (t : Term) (n : ℕ) → term_step o (drop at s) ≡ item t n
        → (w' : List ℤ) (l' : List ℕ) → TermPut count t.weight t.code w l w' l'
        → Walking (at + n) (count + 1) (capped (size + nat_abs t.weight)) w' l'
    unfolding summing-term
    walking-term t n e w' l' p =
        let h = put-lengths count t.weight t.code w l w' l' p in
        let pre = i.summing.terms in
        let rest = met_from (term_step o) (drop (at + n) s) 0 in
        let r : min (length w) (length l) ≡ columns_room w₀ l₀ = omega (arith, i.weights, i.literals) in
        record {
          summing = summing-term o s at count size i.summing t n e;
          met =
              i.met
              ∙ ap (λ (x : List Term). pre ++ x)
              (met-item (term_step o) (term-moves o) (drop at s) t n e
              ∙ ap (λ (x : List ℕ). t ∷ met_from (term_step o) x 0) (drop-drop n at s))
              ∙ sym (append_assoc pre (t ∷ []) rest);
          weights = h.0 ∙ i.weights;
          literals = h.1 ∙ i.literals;
          put =
              record {
                weights =
                    room-more weight_of (columns_room w₀ l₀) count pre t w₀ w w' i.summing.counted (omega arith) i.put.weights
                    (rw r at p.weights);
                literals =
                    room-more literal_of (columns_room w₀ l₀) count pre t l₀ l l' i.summing.counted (omega arith) i.put.literals
                    (rw r at p.literals);
              };
        }
