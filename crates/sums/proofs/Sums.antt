-- A sum's walk: where it stands, with what is counted of the terms before it; and the terms that a counted sum has.
use Prim.Native.Nat.{ℕ, ◌+◌, ◌≤◌, ◌<◌}
use mathlib.Core.Path.{◌≡◌, refl, sym, ap, ap₂, ◌∙◌}
use mathlib.Core.List.{List, [], ◌∷◌, ◌++◌}
use native.Mathlib.Omega.{arith}
use lib.ListN.{length, drop, length-append, length-drop}
use lib.IntN.{nat_abs}
use Rattle.definitions.specs.Refusal.{fault_of}
use Rattle.definitions.specs.declared.Fault.{Fault}
use Rattle.definitions.specs.declared.Refusal.{Refusal}
use Rattle.definitions.specs.Reader.{Got, none, got}
use Rattle.definitions.specs.Walk.{stop, bad, item, anywhere}
use Rattle.definitions.specs.Row.{Term, sizes}
use Rattle.definitions.specs.Text.{term_step, as_got, sum}
use Rattle.definitions.specs.declared.Options.{Options}
use Rattle.definitions.proofs.Walks.{At, at-start, at-stop, at-bad, at_item}
use Rattle.definitions.proofs.Statements.{term-moves}
use Rattle.definitions.proofs.Truths.{never}
use Rattle.term_checks.specs.Sizes.{capped}
use Rattle.sums.specs.Brief.{SumBrief, sum_brief, summed}

pub sizes-behind : (ts : List Term) (t : Term) → sizes (ts ++ (t ∷ [])) ≡ sizes ts + nat_abs t.weight
unfolding sizes
sizes-behind [] t = omega arith
sizes-behind (x ∷ ts) t = let e = sizes-behind ts t in omega arith

-- at an offset: the terms before it, how many they are and their size up to the cap
pub record Summing (o : Options) (s : List ℕ) (at count size : ℕ) : Type 0 where
  pub terms : List Term
  pub stands : At (term_step o) anywhere s at terms
  pub counted : count ≡ length terms
  pub sized : size ≡ capped (sizes terms)
  pub fewer : count ≤ at

unfoldable pub summing_start : (o : Options) (s : List ℕ) → Summing o s 0 0 0
unfolding sizes
summing_start o s = record {
  terms = [];
  stands = at-start (term_step o) anywhere s;
  counted = refl;
  sized = omega arith;
  fewer = omega arith;
}

module _ (o : Options) (s : List ℕ) (at count size : ℕ) (w : Summing o s at count size) where
  pub summing-stop : term_step o (drop at s) ≡ stop → got (sum_brief count size) at ≡ summed (sum o s)
  unfolding sum
  summing-stop e =
      ap₂ (λ (n m : ℕ). got (sum_brief n m) at) w.counted w.sized
      ∙ ap (λ g. summed (as_got g)) (sym (at-stop (term_step o) anywhere (term-moves o) s at w.terms w.stands e))

  pub summing-bad : (r : Refusal) → term_step o (drop at s) ≡ bad r → none (fault_of r) ≡ summed (sum o s)
  unfolding sum
  summing-bad r e = ap (λ g. summed (as_got g)) (sym (at-bad (term_step o) anywhere (term-moves o) s at w.terms w.stands r e))

  module _ (t : Term) (n : ℕ) (e : term_step o (drop at s) ≡ item t n) where
    pub term-end-within : at + n ≤ length s
    term-end-within = omega (arith, (term-moves o).most (drop at s) t n e, length-drop at s, w.stands.within)

    pub term-has-byte : 0 < n
    term-has-byte = (term-moves o).least (drop at s) t n e

    unfoldable pub summing-term : Summing o s (at + n) (count + 1) (capped (size + nat_abs t.weight))
    summing-term =
        record {
          terms = w.terms ++ (t ∷ []);
          stands = at_item (term_step o) anywhere (term-moves o) s at w.terms w.stands t n e;
          counted = omega (arith, length-append w.terms (t ∷ []), w.counted);
          sized = omega (arith, sizes-behind w.terms t, w.sized);
          fewer = omega (arith, term-has-byte, w.fewer);
        }

-- ---- a sum that is counted has its terms
pub record SumIs (o : Options) (s : List ℕ) (count size n : ℕ) : Type 0 where
  pub terms : List Term
  pub is : sum o s ≡ got terms n
  pub counted : length terms ≡ count
  pub sized : capped (sizes terms) ≡ size

pub sum_of : (o : Options) (s : List ℕ) (count size n : ℕ) → got (sum_brief count size) n ≡ summed (sum o s) → SumIs o s count size n
sum_of o s count size n e = by (sum o s) refl
  where
    by : (g : Got (List Term)) → sum o s ≡ g → SumIs o s count size n
    by (none x) q = let c : got (sum_brief count size) n ≡ none x = e ∙ ap summed q in never (cc)
    by (got ts m) q =
        let c : got (sum_brief count size) n ≡ got (sum_brief (length ts) (capped (sizes ts))) m = e ∙ ap summed q in
        let b : sum_brief (length ts) (capped (sizes ts)) ≡ sum_brief count size = cc in
        let l : m ≡ n = cc in
        record {
          terms = ts;
          is = q ∙ ap (got ts) l;
          counted = ap (λ (x : SumBrief). x.terms) b;
          sized = ap (λ (x : SumBrief). x.size) b;
        }

pub sum-refused : (o : Options) (s : List ℕ) (e : Fault) → none e ≡ summed (sum o s) → sum o s ≡ none e
sum-refused o s e q = by (sum o s) refl
  where
    by : (g : Got (List Term)) → sum o s ≡ g → sum o s ≡ none e
    by (none x) p = let c : none e ≡ none x = q ∙ ap summed p in let y : x ≡ e = cc in p ∙ ap none y
    by (got ts m) p = let c : none e ≡ got (sum_brief (length ts) (capped (sizes ts))) m = q ∙ ap summed p in never (cc)
