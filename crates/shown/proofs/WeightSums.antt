-- The sums of a row's weights are what the definitions sum up, up to the cap.
use mathlib.Core.Path.{◌≡◌, ◌∙◌}
use mathlib.Core.Bool.{Bool, true, false, cond}
use mathlib.Core.List.{List, [], ◌∷◌}
use Prim.Native.Nat.{ℕ, ◌+◌, ◌≤◌}
use native.Mathlib.Omega.{arith}
use lib.IntN.{nat_abs}
use Rattle.definitions.specs.Row.{Term, sizes}
use Rattle.term_checks.specs.Sizes.{size_cap, capped}
use Rattle.shown.specs.declared.terms.Style.{Style}
use Rattle.shown.specs.declared.sums.Sums.{Sums}
use Rattle.shown.specs.Terms.{fallen}
use Rattle.shown.specs.Sums.{sums_with, summed}

-- what the bound falls by, of one term and of all
unfoldable pub fall_size : Style → Term → ℕ
fall_size s t = cond (fallen s t) (nat_abs t.weight) 0

unfoldable pub falls : Style → List Term → ℕ
falls s [] = 0
falls s (t ∷ ts) = fall_size s t + falls s ts

pub falls-most : (s : Style) (ts : List Term) → falls s ts ≤ sizes ts
unfolding falls fall_size sizes
falls-most s [] = omega arith
falls-most s (t ∷ ts) = omega (arith, falls-most s ts, one (fallen s t))
  where
    one : (b : Bool) → cond b (nat_abs t.weight) 0 ≤ nat_abs t.weight
    one true = omega arith
    one false = omega arith

module _ (s : Style) where
  pub summed-total : (a : Sums) (ts : List Term) → a.total ≤ size_cap → (summed s a ts).total ≡ capped (a.total + sizes ts)
  unfolding summed sizes
  summed-total a [] h = omega arith
  summed-total a (t ∷ ts) h = summed-total (sums_with a t.weight (fallen s t)) ts (omega arith) ∙ omega arith

  pub summed-fall : (a : Sums) (ts : List Term) → a.fall ≤ size_cap → (summed s a ts).fall ≡ capped (a.fall + falls s ts)
  unfolding summed falls fall_size
  summed-fall a [] h = omega arith
  summed-fall a (t ∷ ts) h = by (fallen s t) (λ x g. summed-fall x ts g)
    where
      by : (b : Bool) → ((x : Sums) → x.fall ≤ size_cap → (summed s x ts).fall ≡ capped (x.fall + falls s ts))
          → (summed s (sums_with a t.weight b) ts).fall ≡ capped (a.fall + (cond b (nat_abs t.weight) 0 + falls s ts))
      by true f = f (sums_with a t.weight true) (omega arith) ∙ omega arith
      by false f = f (sums_with a t.weight false) h ∙ omega arith
