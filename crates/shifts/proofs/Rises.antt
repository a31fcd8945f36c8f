-- What the negative weights of a row make its sum grow by: weight by weight, over a column, and of the terms.
use mathlib.Core.Path.{◌≡◌, refl, ap, ap₂}
use mathlib.Core.Bool.{true, false}
use mathlib.Core.List.{List, [], ◌∷◌}
use Prim.Native.Nat.{ℕ, ◌+◌, ◌≤◌, ◌<◌, min}
use native.Mathlib.Numerals.{add-one}
use native.Mathlib.Omega.{arith}
use borrow.Author.Tests.{ltb-true}
use lib.ListN.{length, get_or, drop, drop_of_length-le}
use lib.IntN.{ℤ, pos, negsuc, nat_abs, ◌+ℤ◌}
use lib.Seq.{drop-cons}
use lib.Signed.{lt_z}
use Rattle.definitions.specs.Limits.{weight_limit}
use Rattle.definitions.specs.declared.Kind.{Kind}
use Rattle.definitions.specs.declared.Kind.TheVariants.{AtLeast as at_least, AtMost as at_most, Equal as equal, Objective as objective}
use Rattle.definitions.specs.Table.{terms_on}
use Rattle.definitions.specs.Normal.{moved, total_by, rise_by, rise}
use Rattle.term_checks.specs.Sizes.{size_cap, capped}
use Rattle.term_checks.specs.TermTests.{weight_sizes}
use Rattle.shifts.specs.Shifts.{rise_of, weight_rises, shift_by, shift_of}

-- ---- one weight

rise-below : (w : ℤ) → lt_z w (pos 0) ≡ true → nat_abs w ≡ rise_of w
rise-below (pos n) t = let h : n < 0 = ltb-true n 0 t in absurd (omega arith)
rise-below (negsuc n) t = refl

rise-from-zero : (w : ℤ) → lt_z w (pos 0) ≡ false → 0 ≡ rise_of w
rise-from-zero (pos n) t = refl
rise-from-zero (negsuc n) t = let e : ◌≡◌ {A = ℕ} 0 1 = cc in absurd (omega arith)

rise-size : (w : ℤ) → rise_of w ≤ nat_abs w
rise-size (pos n) = omega arith
rise-size (negsuc n) = omega arith

-- ---- a column of weights

rises-size : (ws : List ℤ) → weight_rises ws ≤ weight_sizes ws
unfolding weight_rises weight_sizes
rises-size [] = omega arith
rises-size (w ∷ ws) = omega (arith, rise-size w, rises-size ws)

-- after i weights, up to the cap
pub record Risen (ws : List ℤ) (i rise : ℕ) : Type 0 where
  pub under : rise ≤ size_cap
  pub left : capped (rise + weight_rises (drop i ws)) ≡ capped (weight_rises ws)

pub risen-none : (ws : List ℤ) → Risen ws 0 0
risen-none ws = record { under = omega arith; left = omega arith }

module _ (ws : List ℤ) (i rise : ℕ) (r : Risen ws i rise) where
  module _ (h : i < length ws) where
    step : weight_rises (drop i ws) ≡ rise_of (get_or ws i (pos 0)) + weight_rises (drop (i + 1) ws)
    unfolding weight_rises
    step = rw (drop-cons ws i (pos 0) h, add-one)

    pub risen-more : lt_z (get_or ws i (pos 0)) (pos 0) ≡ true → Risen ws (i + 1) (capped (rise + nat_abs (get_or ws i (pos 0))))
    risen-more t = record { under = omega arith; left = omega (arith, step, r.left, rise-below (get_or ws i (pos 0)) t) }

    pub risen-same : lt_z (get_or ws i (pos 0)) (pos 0) ≡ false → Risen ws (i + 1) rise
    risen-same t = record { under = r.under; left = omega (arith, step, r.left, rise-from-zero (get_or ws i (pos 0)) t) }

  pub risen-all : length ws ≤ i → min rise weight_limit ≡ min (weight_rises ws) weight_limit
  unfolding weight_rises
  risen-all h =
      let e : weight_rises (drop i ws) ≡ 0 = rw (drop_of_length-le ws h) in
      omega (arith, e, r.left)

-- where the weights are M together, at most, nothing is cut off
pub shift-whole : (k : Kind) (ws : List ℤ) → weight_sizes ws ≤ weight_limit → shift_of k ws ≡ shift_by k (weight_rises ws)
shift-whole k ws h = let e : min (weight_rises ws) weight_limit ≡ weight_rises ws = omega (arith, rises-size ws) in ap (shift_by k) e

-- ---- terms

rise-is : (w : ℤ) → rise_by w ≡ pos (rise_of w)
rise-is (pos n) = refl
rise-is (negsuc n) = refl

pub rises-on : (ws : List ℤ) (cs : List ℕ) → length ws ≡ length cs → total_by rise (terms_on ws cs) ≡ pos (weight_rises ws)
unfolding terms_on total_by rise weight_rises
rises-on [] cs h = refl
rises-on (w ∷ ws) [] h = absurd (omega arith)
rises-on (w ∷ ws) (c ∷ cs) h = ap₂ (λ (x y : ℤ). x +ℤ y) (rise-is w) (rises-on ws cs (omega arith))

-- the bound moves by what is added to it
pub moved-is : (k : Kind) (b : ℤ) (n : ℕ) → moved k b (pos n) ≡ b +ℤ shift_by k n
moved-is at_least b n = refl
moved-is at_most b n = refl
moved-is equal b n = refl
moved-is objective b n = refl
