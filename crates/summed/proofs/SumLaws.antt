-- The sum of the weights whose literal is true, term by term: no part of it is larger than the absolute weights
-- together.
use mathlib.Core.Path.{◌≡◌, sym, ap, ◌∙◌}
use mathlib.Core.Bool.{Bool, true, false, cond}
use mathlib.Core.List.{List, [], ◌∷◌, ◌++◌}
use Prim.Native.Nat.{ℕ, zero, suc, ◌+◌, ◌≤◌, ◌<◌}
use native.Mathlib.Omega.{arith}
use lib.IntN.{ℤ, pos, nat_abs, ◌+ℤ◌, +ℤ_idl, +ℤ_idr, +ℤ_assoc}
use lib.ListN.{length, get_or, take}
use mir.Syntax.{w64}
use mir.Val.{SFits}
use Rattle.definitions.specs.Limits.{weight_limit}
use Rattle.definitions.specs.Row.{Term, sizes}
use Rattle.definitions.specs.Table.{terms_on}
use Rattle.definitions.specs.Meaning.{is_true, sum_of}
use Rattle.definitions.proofs.Whole.{abs_is, sum_is, one_side, is-in}
use Rattle.term_checks.proofs.Terms.{terms-take, terms-to}

-- what a term adds
abbrev counted : (ℕ → Bool) → ℤ → ℕ → ℤ
counted a w c = cond (is_true a c) w (pos 0)

-- ---- sizes

whole-size : (x y : ℤ) → nat_abs (x +ℤ y) ≤ nat_abs x + nat_abs y
whole-size x y = omega (arith, abs_is x, abs_is y, abs_is (x +ℤ y), sum_is x y, one_side (x +ℤ y))

counted-size : (b : Bool) (w : ℤ) → nat_abs (cond b w (pos 0)) ≤ nat_abs w
counted-size true w = omega arith
counted-size false w = omega arith

sum-size : (a : ℕ → Bool) (ts : List Term) → nat_abs (sum_of a ts) ≤ sizes ts
unfolding sum_of sizes
sum-size a [] = omega arith
sum-size a (t ∷ ts) =
    omega (arith, whole-size (counted a t.weight t.code) (sum_of a ts), counted-size (is_true a t.code) t.weight, sum-size a ts)

sizes-part : (n : ℕ) (ts : List Term) → sizes (take n ts) ≤ sizes ts
unfolding sizes
sizes-part zero ts = omega arith
sizes-part (suc n) [] = omega arith
sizes-part (suc n) (t ∷ ts) = omega (arith, sizes-part n ts)

abs-in : (z : ℤ) → nat_abs z ≤ weight_limit → SFits w64 z
abs-in z h = is-in z (omega (arith, abs_is z)) (omega (arith, abs_is z))

-- a sum, of absolute weights of at most M together, is in 64 signed bits
pub sum-in : (a : ℕ → Bool) (ts : List Term) → sizes ts ≤ weight_limit → SFits w64 (sum_of a ts)
sum-in a ts h = abs-in (sum_of a ts) (omega (arith, sum-size a ts))

-- ---- the walk over the terms of two columns

sum-snoc : (a : ℕ → Bool) (ts : List Term) (t : Term) → sum_of a (ts ++ (t ∷ [])) ≡ sum_of a ts +ℤ counted a t.weight t.code
unfolding sum_of
sum-snoc a [] t = let x = counted a t.weight t.code in +ℤ_idr x ∙ sym (+ℤ_idl x)
sum-snoc a (u ∷ ts) t = rw (sum-snoc a ts t, +ℤ_assoc)

module _ (a : ℕ → Bool) (ws : List ℤ) (cs : List ℕ) where
  -- of the first i terms
  abbrev pub sum_to : ℕ → ℤ
  sum_to i = sum_of a (terms_on (take i ws) (take i cs))

  module _ (i : ℕ) where
    pub sum-to-in : sizes (terms_on ws cs) ≤ weight_limit → SFits w64 (sum_to i)
    sum-to-in h =
        let e : terms_on (take i ws) (take i cs) ≡ take i (terms_on ws cs) = sym (terms-take i ws cs) in
        sum-in a (terms_on (take i ws) (take i cs)) (omega (arith, ap sizes e, sizes-part i (terms_on ws cs)))

    module _ (h : i < length ws) (g : i < length cs) where
      more : sum_to (i + 1) ≡ sum_to i +ℤ counted a (get_or ws i (pos 0)) (get_or cs i 0)
      more = rw (terms-to ws cs i h g) (sum-snoc a (terms_on (take i ws) (take i cs)) (record {
        weight = get_or ws i (pos 0);
        code = get_or cs i 0;
      }))

      -- the term that is read there
      module _ (w : ℤ) (c : ℕ) (we : w ≡ get_or ws i (pos 0)) (ce : c ≡ get_or cs i 0) where
        pub sum-true : is_true a c ≡ true → sum_to i +ℤ w ≡ sum_to (i + 1)
        sum-true t = sym (more ∙ rw (← ce, t, ← we))

        pub sum-false : is_true a c ≡ false → sum_to i ≡ sum_to (i + 1)
        sum-false t = sym (more ∙ rw (← ce, t) (+ℤ_idr (sum_to i)))
