-- Laws of the items that a walk meets: one at a time, and that a walk which reads well has met all its items.
use Prim.Native.Nat.{ℕ, zero, suc, pred, ◌+◌, ◌≤◌}
use mathlib.Core.Path.{◌≡◌, refl, sym, ap, ◌∙◌}
use mathlib.Core.List.{List, [], ◌∷◌}
use native.Mathlib.Omega.{arith}
use lib.ListN.{length, drop}
use Rattle.definitions.specs.declared.Refusal.{Refusal}
use Rattle.definitions.specs.Reader.{got}
use Rattle.definitions.specs.Row.{Term}
use Rattle.definitions.specs.Text.{term_step, as_got, sum}
use Rattle.definitions.specs.Walk.{Step, stop, bad, item, Walked, broken, items, before, walk, all, anywhere}
use Rattle.definitions.specs.declared.Options.{Options}
use Rattle.definitions.proofs.Truths.{never}
use Rattle.definitions.proofs.Walks.{Moves}
use Rattle.sums.specs.Met.{met_from, met_terms}

module _ {A : Type 0} (step : List ℕ → Step A) where
  -- bytes of the last item are passed
  met-passed : (s : List ℕ) (k : ℕ) → k ≤ length s → met_from step s k ≡ met_from step (drop k s) 0
  unfolding met_from
  met-passed [] zero h = refl
  met-passed [] (suc k) h = absurd (omega arith)
  met-passed (b ∷ s) zero h = refl
  met-passed (b ∷ s) (suc k) h = met-passed s k (omega arith)

  pub met-stop : (s : List ℕ) → step s ≡ stop → met_from step s 0 ≡ []
  unfolding met_from
  met-stop [] e = refl
  met-stop (b ∷ s) e = rw (e, met_from)

  pub met-bad : (s : List ℕ) (r : Refusal) → step s ≡ bad r → met_from step s 0 ≡ []
  unfolding met_from
  met-bad [] r e = refl
  met-bad (b ∷ s) r e = rw (e, met_from)

  pub met-item : Moves step → (s : List ℕ) (a : A) (n : ℕ) → step s ≡ item a n → met_from step s 0 ≡ a ∷ met_from step (drop n s) 0
  unfolding met_from
  met-item moves [] a n e = absurd (omega (arith, moves.least [] a n e, moves.most [] a n e))
  met-item moves (b ∷ s) a zero e = absurd (omega (arith, moves.least (b ∷ s) a zero e))
  met-item moves (b ∷ s) a (suc n) e =
      rw (e, met_from) (ap (λ (l : List A). a ∷ l) (met-passed s n (omega (arith, moves.most (b ∷ s) a (suc n) e))))

  -- a walk to its end has met all its items
  met-behind : (a : A) (s : List ℕ) (k at : ℕ) (xs : List A) (n : ℕ) → before a (walk step anywhere s k at) ≡ items xs n
      → ((ys : List A) (m : ℕ) → walk step anywhere s k at ≡ items ys m → met_from step s k ≡ ys) → a ∷ met_from step s k ≡ xs
  met-behind a s k at xs n e ih = by (walk step anywhere s k at) refl
    where
      by : (x : Walked A) → walk step anywhere s k at ≡ x → a ∷ met_from step s k ≡ xs
      by (broken r) q = let z : broken r ≡ items xs n = sym (ap (before a) q) ∙ e in never (cc)
      by (items ys m) q =
          let z : items (a ∷ ys) m ≡ items xs n = sym (ap (before a) q) ∙ e in
          let l : a ∷ ys ≡ xs = cc in
          ap (λ (t : List A). a ∷ t) (ih ys m q) ∙ l

  met-walked : (s : List ℕ) (k at : ℕ) (xs : List A) (n : ℕ) → walk step anywhere s k at ≡ items xs n → met_from step s k ≡ xs
  unfolding walk met_from
  met-walked [] k at xs n e = cc
  met-walked (b ∷ s) (suc k) at xs n e = met-walked s k (at + 1) xs n e
  met-walked (b ∷ s) zero at xs n e = cases (step (b ∷ s)) refl (λ k. met-walked s k (at + 1))
    where
      cases : (x : Step A) → step (b ∷ s) ≡ x
          → ((k : ℕ) (ys : List A) (m : ℕ) → walk step anywhere s k (at + 1) ≡ items ys m → met_from step s k ≡ ys)
          → met_from step (b ∷ s) zero ≡ xs
      cases stop q ih = let z : items [] at ≡ items xs n = rw (q, walk) at e in rw (q, met_from) (cc)
      cases (bad r) q ih = let z : broken _ ≡ items xs n = rw (q, walk) at e in never (cc)
      cases (item a m) q ih = rw (q, met_from) (met-behind a s (pred m) (at + 1) xs n (rw (q, walk) at e) (ih (pred m)))

  pub met_all : (s : List ℕ) (xs : List A) (n : ℕ) → all step anywhere s ≡ items xs n → met_from step s 0 ≡ xs
  unfolding all
  met_all s xs n e = met-walked s 0 0 xs n e

-- a sum that was got has met its terms
pub met-sum : (o : Options) (s : List ℕ) (ts : List Term) (n : ℕ) → sum o s ≡ got ts n → met_terms o s ≡ ts
unfolding sum
met-sum o s ts n e = by (all (term_step o) anywhere s) refl
  where
    by : (x : Walked Term) → all (term_step o) anywhere s ≡ x → met_terms o s ≡ ts
    by (broken r) q = let z : as_got (broken r) ≡ got ts n = sym (ap as_got q) ∙ e in never (cc)
    by (items xs m) q =
        let z : as_got (items xs m) ≡ got ts n = sym (ap as_got q) ∙ e in
        let l : xs ≡ ts = cc in
        met_all (term_step o) s xs m q ∙ l
