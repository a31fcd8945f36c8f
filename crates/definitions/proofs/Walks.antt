-- What does a walk find? One item at a time, where a walk stands, and what holds of all that it finds.
use Prim.Native.Nat.{ℕ, zero, suc, pred, ◌+◌, ◌≤◌, ◌<◌}
use mathlib.Core.Path.{◌≡◌, refl, sym, ap, ◌∙◌}
use mathlib.Core.List.{List, [], ◌∷◌, ◌++◌, append_assoc, append-nil}
use native.Mathlib.Omega.{arith}
use lib.ListN.{length, drop, length-drop}
use lib.Seq.{drop-drop}
use Rattle.definitions.specs.Refusal.{Refusal, further}
use Rattle.definitions.specs.Lists.{total, AllOf}
use Rattle.definitions.specs.Walk.{Step, stop, bad, item, Walked, broken, items, before, walk, all}
use Rattle.definitions.proofs.Truths.{never}

-- ---- what is asked of a step: nothing stands in no text, and an item has a byte, within the text
pub record Moves {A : Type 0} (step : List ℕ → Step A) : Type 0 where
  pub none : step [] ≡ stop
  pub least : (s : List ℕ) (a : A) (n : ℕ) → step s ≡ item a n → 0 < n
  pub most : (s : List ℕ) (a : A) (n : ℕ) → step s ≡ item a n → n ≤ length s

abbrev pub onto : {A : Type 0} → List A → Walked A → Walked A
onto pre (broken r) = broken r
onto pre (items xs e) = items (pre ++ xs) e

pub onto-none : {A : Type 0} (o : Walked A) → o ≡ onto [] o
onto-none (broken r) = refl
onto-none (items xs e) = refl

onto-before : {A : Type 0} (pre : List A) (a : A) (o : Walked A) → onto pre (before a o) ≡ onto (pre ++ (a ∷ [])) o
onto-before pre a (broken r) = refl
onto-before pre a (items xs e) = ap (λ (l : List _). items l e) (sym (append_assoc pre (a ∷ []) xs))

module _ {A : Type 0} (step : List ℕ → Step A) (place : ℕ → A → A) where
  -- bytes of the last item are passed
  pub walk-passed : (s : List ℕ) (k at : ℕ) → k ≤ length s → walk step place s k at ≡ walk step place (drop k s) 0 (at + k)
  unfolding walk
  walk-passed [] zero at h = ap (walk step place [] 0) (omega arith)
  walk-passed [] (suc k) at h = absurd (omega arith)
  walk-passed (b ∷ s) zero at h = ap (walk step place (b ∷ s) 0) (omega arith)
  walk-passed (b ∷ s) (suc k) at h = walk-passed s k (at + 1) (omega arith) ∙ ap (walk step place (drop k s) 0) (omega arith)

  module _ (moves : Moves step) (at : ℕ) where
    no-refusal-of-nothing : {r : Refusal} → step [] ≡ bad r → ⊥
    no-refusal-of-nothing e = let q = moves.none in never cc

    pub walk-stop : (s : List ℕ) → step s ≡ stop → walk step place s 0 at ≡ items [] at
    unfolding walk
    walk-stop [] e = refl
    walk-stop (b ∷ s) e = rw (e, walk)

    pub walk-bad : (s : List ℕ) (r : Refusal) → step s ≡ bad r → walk step place s 0 at ≡ broken (further at r)
    unfolding walk
    walk-bad [] r e = absurd (no-refusal-of-nothing e)
    walk-bad (b ∷ s) r e = rw (e, walk)

    pub walk-item : (s : List ℕ) (a : A) (n : ℕ) → step s ≡ item a n
        → walk step place s 0 at ≡ before (place at a) (walk step place (drop n s) 0 (at + n))
    unfolding walk
    walk-item [] a n e = absurd (omega (arith, moves.least [] a n e, moves.most [] a n e))
    walk-item (b ∷ s) a zero e = absurd (omega (arith, moves.least (b ∷ s) a zero e))
    walk-item (b ∷ s) a (suc n) e =
        rw (e, walk)
        (ap (before (place at a))
        (walk-passed s n (at + 1) (omega (arith, moves.most (b ∷ s) a (suc n) e)) ∙ ap (walk step place (drop n s) 0) (omega arith)))

  -- ---- where a walk stands: at an offset, with the items before it
  pub record At (s : List ℕ) (at : ℕ) (pre : List A) : Type 0 where
    pub within : at ≤ length s
    pub split : all step place s ≡ onto pre (walk step place (drop at s) 0 at)

  pub at-start : (s : List ℕ) → At s 0 []
  unfolding all
  at-start s = record { within = omega arith; split = onto-none (walk step place s 0 0) }

  module _ (moves : Moves step) (s : List ℕ) (at : ℕ) (pre : List A) (w : At s at pre) where
    pub at-stop : step (drop at s) ≡ stop → all step place s ≡ items pre at
    at-stop e = w.split ∙ ap (onto pre) (walk-stop moves at (drop at s) e) ∙ ap (λ (l : List A). items l at) (append-nil pre)

    pub at-bad : (r : Refusal) → step (drop at s) ≡ bad r → all step place s ≡ broken (further at r)
    at-bad r e = w.split ∙ ap (onto pre) (walk-bad moves at (drop at s) r e)

    pub at_item : (a : A) (n : ℕ) → step (drop at s) ≡ item a n → At s (at + n) (pre ++ (place at a ∷ []))
    at_item a n e =
        record {
          within = omega (arith, moves.most (drop at s) a n e, length-drop at s, w.within);
          split =
              w.split ∙ ap (onto pre) (walk-item moves at (drop at s) a n e)
              ∙ onto-before pre (place at a) (walk step place (drop n (drop at s)) 0 (at + n))
              ∙ ap (λ (t : List ℕ). onto (pre ++ (place at a ∷ [])) (walk step place t 0 (at + n))) (drop-drop n at s);
        }

-- ---- what holds of each item holds of all, and the walk ends within the text
abbrev Ended : {A : Type 0} → (A → Type 0) → ℕ → ℕ → Walked A → Type 0
Ended P low high (broken r) = Unit {0}
Ended P low high (items xs e) = (low ≤ e) × (e ≤ high) × AllOf P xs

module _ {A : Type 0} (P : A → Type 0) where
  ended-before : (low high : ℕ) (a : A) (o : Walked A) → P a → Ended P low high o → Ended P low high (before a o)
  ended-before low high a (broken r) q e = tt
  ended-before low high a (items xs k) q e = (e.0, e.1, (q, e.2))

  ended-wider : (low high low' high' : ℕ) (o : Walked A) → low' ≤ low → high ≤ high' → Ended P low high o → Ended P low' high' o
  ended-wider low high low' high' (broken r) p q e = tt
  ended-wider low high low' high' (items xs k) p q e = (omega arith, omega arith, e.2)

module _ {A : Type 0} (step : List ℕ → Step A) (place : ℕ → A → A) (P : A → Type 0)
    (each : (s : List ℕ) (a : A) (n at : ℕ) → step s ≡ item a n → P (place at a)) where
  ended : (s : List ℕ) (k at : ℕ) → Ended P at (at + length s) (walk step place s k at)
  unfolding walk
  ended [] k at = (omega arith, omega arith, tt)
  ended (b ∷ s) (suc k) at =
      ended-wider P (at + 1) (at + 1 + length s) at (at + length (b ∷ s)) (walk step place s k (at + 1)) (omega arith) (omega arith)
      (ended s k (at + 1))
  ended (b ∷ s) zero at = cases (step (b ∷ s)) refl (λ k. ended s k (at + 1))
    where
      cases : (x : Step A) → step (b ∷ s) ≡ x → ((k : ℕ) → Ended P (at + 1) (at + 1 + length s) (walk step place s k (at + 1)))
          → Ended P at (at + length (b ∷ s)) (walk step place (b ∷ s) zero at)
      cases stop e ih = rw (e, walk) (omega arith, omega arith, tt)
      cases (bad r) e ih = rw (e, walk) tt
      cases (item a n) e ih =
          rw (e, walk)
          (ended-before P at (at + length (b ∷ s)) (place at a) (walk step place s (pred n) (at + 1)) (each (b ∷ s) a n at e)
          (ended-wider P (at + 1) (at + 1 + length s) at (at + length (b ∷ s)) (walk step place s (pred n) (at + 1)) (omega arith)
          (omega arith) (ih (pred n))))

  pub all-ended : (s : List ℕ) (ls : List A) (n : ℕ) → all step place s ≡ items ls n → (n ≤ length s) × AllOf P ls
  unfolding all
  all-ended s ls n e =
      let q : Ended P 0 (0 + length s) (items ls n) = rw e at (ended s 0 0) in
      (omega (arith, q.1), q.2)

-- ---- what each item has no more of than bytes, all have no more of than bytes
abbrev Summed : {A : Type 0} → (A → ℕ) → ℕ → Walked A → Type 0
Summed g low (broken r) = Unit {0}
Summed g low (items xs e) = total g xs + low ≤ e

module _ {A : Type 0} (step : List ℕ → Step A) (place : ℕ → A → A) (moves : Moves step) (g : A → ℕ)
    (each : (s : List ℕ) (a : A) (n at : ℕ) → step s ≡ item a n → g (place at a) ≤ n) where
  summed-before : (low n : ℕ) (a : A) (o : Walked A) → g a ≤ n → Summed g (low + n) o → Summed g low (before a o)
  unfolding total
  summed-before low n a (broken r) h q = tt
  summed-before low n a (items xs e) h q = omega arith

  summed : (s : List ℕ) (k at : ℕ) → k ≤ length s → Summed g (at + k) (walk step place s k at)
  unfolding walk total
  summed [] k at h = omega arith
  summed (b ∷ s) (suc k) at h =
      let e : at + 1 + k ≡ at + suc k = omega arith in
      rw e at (summed s k (at + 1) (omega arith))
  summed (b ∷ s) zero at h = cases (step (b ∷ s)) refl (λ k. summed s k (at + 1))
    where
      cases : (x : Step A) → step (b ∷ s) ≡ x → ((k : ℕ) → k ≤ length s → Summed g (at + 1 + k) (walk step place s k (at + 1)))
          → Summed g (at + 0) (walk step place (b ∷ s) zero at)
      cases stop e ih = rw (e, walk) (omega arith)
      cases (bad r) e ih = rw (e, walk) tt
      cases (item a zero) e ih = absurd (omega (arith, moves.least (b ∷ s) a zero e))
      cases (item a (suc n)) e ih =
          let q : at + 1 + n ≡ at + 0 + suc n = omega arith in
          rw (e, walk)
          (summed-before (at + 0) (suc n) (place at a) (walk step place s n (at + 1)) (each (b ∷ s) a (suc n) at e)
          (rw q at (ih n (omega (arith, moves.most (b ∷ s) a (suc n) e)))))

  pub all-summed : (s : List ℕ) (ls : List A) (n : ℕ) → all step place s ≡ items ls n → total g ls ≤ n
  unfolding all
  all-summed s ls n e =
      let q : Summed g (0 + 0) (items ls n) = rw e at (summed s 0 0 (omega arith)) in
      omega (arith, q)

-- one for each item
pub total-one : {A : Type 0} (xs : List A) → total (λ _. 1) xs ≡ length xs
unfolding total
total-one [] = refl
total-one (x ∷ xs) = let e = total-one xs in omega arith
