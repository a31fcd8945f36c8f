-- One term as it is made normal, and a row's terms written one after the other.
use mathlib.Core.Path.{◌≡◌, refl, sym, ap, ◌∙◌}
use mathlib.Core.Bool.{true, false}
use mathlib.Core.List.{List, [], ◌∷◌, ◌++◌, map}
use Prim.Native.Nat.{ℕ, zero, suc, ◌+◌, ◌≤◌, ◌<◌}
use native.Mathlib.Omega.{arith}
use borrow.Author.Tests.{ltb-true}
use lib.IntN.{ℤ, pos, negsuc, neg_ℤ, nat_abs, ◌-ℤ◌, +ℤ_idl}
use lib.ListN.{length, take, get_or, set, length-map, length-take}
use lib.Seq.{take_all}
use lib.Signed.{lt_z}
use mir.Syntax.{w64}
use mir.Val.{SFits, to_z, of_z}
use mir.Facts.{to_z-of_z}
use Rattle.definitions.specs.Lists.{over}
use Rattle.definitions.specs.Limits.{weight_limit}
use Rattle.definitions.specs.Literal.{opposite}
use Rattle.definitions.specs.Row.{Term, term}
use Rattle.definitions.specs.Table.{terms_on}
use Rattle.definitions.specs.Normal.{normal_by}
use Rattle.term_checks.specs.TermTests.{weight_sizes}
use Rattle.term_checks.proofs.Terms.{terms-count, terms-to}
use Rattle.definitions.proofs.Columns.{over-length, over-set, map_snoc}

-- ---- one term

pub opposite-in : (w : ℤ) → nat_abs w ≤ weight_limit → SFits w64 (pos 0 -ℤ w)
opposite-in w h = rw (+ℤ_idl (neg_ℤ w)) (by w h)
  where
    by : (w : ℤ) → nat_abs w ≤ weight_limit → SFits w64 (neg_ℤ w)
    by (pos zero) h = record { sfits = omega arith }
    by (pos (suc n)) h = record { sfits = omega arith }
    by (negsuc n) h = record { sfits = omega arith }

-- as the code computes it
pub opposite-is : (w : ℤ) → SFits w64 w → nat_abs w ≤ weight_limit → to_z w64 (of_z w64 (pos 0 -ℤ to_z w64 (of_z w64 w))) ≡ neg_ℤ w
opposite-is w f h =
    let g : SFits w64 (pos 0 -ℤ w) = opposite-in w h in
    rw (to_z-of_z f, to_z-of_z g) (+ℤ_idl (neg_ℤ w))

pub normal-below : (w : ℤ) (c : ℕ) → lt_z w (pos 0) ≡ true → term (neg_ℤ w) (opposite c) ≡ normal_by w c
normal-below (pos n) c t = let h : n < 0 = ltb-true n 0 t in absurd (omega arith)
normal-below (negsuc n) c t = refl

pub normal-from-zero : (w : ℤ) (c : ℕ) → lt_z w (pos 0) ≡ false → term w c ≡ normal_by w c
normal-from-zero (pos n) c t = refl
normal-from-zero (negsuc n) c t = let e : ◌≡◌ {A = ℕ} 0 1 = cc in absurd (omega arith)

-- no weight is larger than all together
pub size-of-one : (ws : List ℤ) (i : ℕ) → i < length ws → nat_abs (get_or ws i (pos 0)) ≤ weight_sizes ws
unfolding weight_sizes
size-of-one [] i h = absurd (omega arith)
size-of-one (w ∷ ws) zero h = omega arith
size-of-one (w ∷ ws) (suc i) h = omega (arith, size-of-one ws i (omega arith))

-- ---- terms written one after the other, by any function of the term

module _ {A : Type 0} (f : Term → A) (ws : List ℤ) (cs : List ℕ) (o : List A) where
  -- the first i of them, in a column that was o
  abbrev pub Written : List A → ℕ → Type 0
  Written l i = l ≡ over (map f (terms_on (take i ws) (take i cs))) o

  pub written_none : Written o 0
  unfolding terms_on
  written_none = refl

  module _ (even : length ws ≡ length cs) (room : length ws ≤ length o) (l : List A) (i : ℕ) (within : i ≤ length ws)
      (w : Written l i) where
    count : length (map f (terms_on (take i ws) (take i cs))) ≡ i
    count =
        length-map (terms_on (take i ws) (take i cs)) f
        ∙ omega (arith, terms-count (take i ws) (take i cs), length-take i ws, length-take i cs)

    pub written-length : length l ≡ length o
    written-length = ap length w ∙ over-length (map f (terms_on (take i ws) (take i cs))) o (omega (arith, count))

    pub written-more : i < length ws → (x : A) → x ≡ f (term (get_or ws i (pos 0)) (get_or cs i 0)) → Written (set l i x) (i + 1)
    written-more h x e =
        ap (λ (k : List A). set k i x) w
        ∙ over-set (map f (terms_on (take i ws) (take i cs))) o i x (sym count) (omega arith)
        ∙ ap (λ (y : A). over (map f (terms_on (take i ws) (take i cs)) ++ (y ∷ [])) o) e
        ∙ ap (λ (k : List A). over k o) (sym (map_snoc f (terms_on (take i ws) (take i cs)) (term (get_or ws i (pos 0)) (get_or cs i 0))))
        ∙ ap (λ (ts : List Term). over (map f ts) o) (sym (terms-to ws cs i h (omega arith)))

    pub written_all : length ws ≤ i → l ≡ over (map f (terms_on ws cs)) o
    written_all h = w ∙ rw (take_all i ws h, take_all i cs (omega arith))
