-- How does `omega` take whole numbers? z is `up z` less `dn z`, one of which is 0. Each law turns a fact on ℤ into one
-- on ℕ that is linear in these.
use mathlib.Core.Path.{◌≡◌, refl, sym, ap, ◌∙◌}
use mathlib.Core.Bool.{true, false}
use Prim.Native.Nat.{ℕ, zero, suc, ◌+◌, ◌*◌, ◌≤◌, ◌<◌, ◌^◌, min}
use native.Mathlib.Omega.{arith}
use native.Mathlib.Decide.{dec_lt, dec_le}
use borrow.Author.Tests.{lt-ltb, le-ltb, ltb-true, ltb-false, le-leb, lt-leb, leb-true}
use lib.Dec.{leb}
use Rattle.definitions.specs.Limits.{in_i64}
use lib.IntN.{ℤ, pos, negsuc, neg_ℤ, nat_abs, sub_ℕ, ◌+ℤ◌, ◌-ℤ◌, ◌*ℤ◌}
use native.Mathlib.Nat.{zero-mul}
use lib.Signed.{lt_z, le_z}
use mir.Syntax.{w64}
use mir.Val.{SFits}
use Rattle.definitions.proofs.Truths.{never, both}

unfoldable pub up : ℤ → ℕ
up (pos n) = n
up (negsuc n) = 0

unfoldable pub dn : ℤ → ℕ
dn (pos n) = 0
dn (negsuc n) = suc n

module _ where
  pub one_side : (z : ℤ) → min (up z) (dn z) ≡ 0
  unfolding up dn
  one_side (pos n) = omega arith
  one_side (negsuc n) = omega arith

  pub up_pos : (n : ℕ) → up (pos n) ≡ n
  unfolding up
  up_pos n = refl

  pub dn-pos : (n : ℕ) → dn (pos n) ≡ 0
  unfolding dn
  dn-pos n = refl

  pub up-negsuc : (n : ℕ) → up (negsuc n) ≡ 0
  unfolding up
  up-negsuc n = refl

  pub dn-negsuc : (n : ℕ) → dn (negsuc n) ≡ suc n
  unfolding dn
  dn-negsuc n = refl

  pub abs_is : (z : ℤ) → nat_abs z ≡ up z + dn z
  unfolding up dn
  abs_is (pos n) = omega arith
  abs_is (negsuc n) = omega arith

  pub up_neg : (z : ℤ) → up (neg_ℤ z) ≡ dn z
  unfolding up dn
  up_neg (pos zero) = refl
  up_neg (pos (suc n)) = refl
  up_neg (negsuc n) = refl

  pub dn-neg : (z : ℤ) → dn (neg_ℤ z) ≡ up z
  unfolding up dn
  dn-neg (pos zero) = refl
  dn-neg (pos (suc n)) = refl
  dn-neg (negsuc n) = refl

  -- a − b
  pub sub_is : (a b : ℕ) → up (sub_ℕ a b) + b ≡ a + dn (sub_ℕ a b)
  unfolding up dn
  sub_is a b = cases (dec_lt a b)
    where
      cases : Dec (a < b) → up (sub_ℕ a b) + b ≡ a + dn (sub_ℕ a b)
      cases (yes h) = rw (lt-ltb a b h) (omega arith)
      cases (no h) = rw (le-ltb a b (omega arith)) (omega arith)

  pub sum_is : (x y : ℤ) → up (x +ℤ y) + (dn x + dn y) ≡ up x + up y + dn (x +ℤ y)
  unfolding up dn
  sum_is (pos a) (pos b) = omega arith
  sum_is (pos a) (negsuc b) = omega (arith, sub_is a (suc b))
  sum_is (negsuc a) (pos b) = omega (arith, sub_is b (suc a))
  sum_is (negsuc a) (negsuc b) = omega arith

  pub diff_is : (x y : ℤ) → up (x -ℤ y) + (dn x + up y) ≡ up x + dn y + dn (x -ℤ y)
  diff_is x y = omega (arith, sum_is x (neg_ℤ y), up_neg y, dn-neg y)

  pub lt-is : (x y : ℤ) → lt_z x y ≡ true → up x + dn y < up y + dn x
  unfolding up dn
  lt-is (pos a) (pos b) t = omega (arith, ltb-true a b t)
  lt-is (pos a) (negsuc b) t = never cc
  lt-is (negsuc a) (pos b) t = omega arith
  lt-is (negsuc a) (negsuc b) t = omega (arith, ltb-true b a t)

  pub ge-is : (x y : ℤ) → lt_z x y ≡ false → up y + dn x ≤ up x + dn y
  unfolding up dn
  ge-is (pos a) (pos b) t = omega (arith, ltb-false a b t)
  ge-is (pos a) (negsuc b) t = omega arith
  ge-is (negsuc a) (pos b) t = never cc
  ge-is (negsuc a) (negsuc b) t = omega (arith, ltb-false b a t)

  -- in 64 signed bits
  pub in-up : (z : ℤ) → SFits w64 z → up z < 2 ^ 63
  unfolding up
  in-up (pos n) f = f.sfits
  in-up (negsuc n) f = omega arith

  pub in-dn : (z : ℤ) → SFits w64 z → dn z ≤ 2 ^ 63
  unfolding dn
  in-dn (pos n) f = omega arith
  in-dn (negsuc n) f = f.sfits

  pub is-in : (z : ℤ) → up z < 2 ^ 63 → dn z ≤ 2 ^ 63 → SFits w64 z
  unfolding up dn
  is-in (pos n) h g = record { sfits = h }
  is-in (negsuc n) h g = record { sfits = g }

  -- two numbers are one where their parts say so
  pub same : (x y : ℤ) → up x + dn y ≡ up y + dn x → x ≡ y
  unfolding up dn
  same (pos a) (pos b) e = let q : a ≡ b = omega arith in ap pos q
  same (pos a) (negsuc b) e = absurd (omega arith)
  same (negsuc a) (pos b) e = absurd (omega arith)
  same (negsuc a) (negsuc b) e = let q : a ≡ b = omega arith in ap negsuc q

-- whether 64 signed bits hold z
module _ where
  pub in-true : (z : ℤ) → SFits w64 z → in_i64 z ≡ true
  unfolding in_i64
  in-true (pos n) f = le-leb n 9223372036854775807 (omega (arith, f.sfits))
  in-true (negsuc n) f = rw (le-leb n 9223372036854775807 (omega (arith, f.sfits)))

  pub true-in : (z : ℤ) → in_i64 z ≡ true → SFits w64 z
  unfolding in_i64
  true-in (pos n) e = record { sfits = omega (arith, leb-true n 9223372036854775807 e) }
  true-in (negsuc n) e = record { sfits = omega (arith, leb-true n 9223372036854775807 (both (leb n 9223372036854775807) true e).0) }

  pub over-up : (z : ℤ) → 2 ^ 63 ≤ up z → in_i64 z ≡ false
  unfolding up in_i64
  over-up (pos n) h = lt-leb n 9223372036854775807 (omega arith)
  over-up (negsuc n) h = absurd (omega arith)

  pub over-dn : (z : ℤ) → 2 ^ 63 < dn z → in_i64 z ≡ false
  unfolding dn in_i64
  over-dn (pos n) h = absurd (omega arith)
  over-dn (negsuc n) h = rw (lt-leb n 9223372036854775807 (omega arith))

-- a product by a number from 0 up
module _ where
  pub up-mul : (x : ℤ) (k : ℕ) → up (x *ℤ pos k) ≡ up x * k
  unfolding up dn
  up-mul (pos a) k = refl
  up-mul (negsuc a) k = up_neg (pos (suc a * k)) ∙ sym (zero-mul k)

  pub dn-mul : (x : ℤ) (k : ℕ) → dn (x *ℤ pos k) ≡ dn x * k
  unfolding up dn
  dn-mul (pos a) k = sym (zero-mul k)
  dn-mul (negsuc a) k = dn-neg (pos (suc a * k))

-- `le_z`, and when two comparisons are one
module _ where
  pub is_le : (x y : ℤ) → up x + dn y ≤ up y + dn x → le_z x y ≡ true
  unfolding up dn
  is_le (pos a) (pos b) h = le-leb a b (omega arith)
  is_le (pos a) (negsuc b) h = absurd (omega arith)
  is_le (negsuc a) (pos b) h = refl
  is_le (negsuc a) (negsuc b) h = le-leb b a (omega arith)

  pub is_gt : (x y : ℤ) → up y + dn x < up x + dn y → le_z x y ≡ false
  unfolding up dn
  is_gt (pos a) (pos b) h = lt-leb a b (omega arith)
  is_gt (pos a) (negsuc b) h = refl
  is_gt (negsuc a) (pos b) h = absurd (omega arith)
  is_gt (negsuc a) (negsuc b) h = lt-leb b a (omega arith)

  -- x − y ≡ u − v
  pub le_same : (x y u v : ℤ) → up x + dn y + (up v + dn u) ≡ up u + dn v + (up y + dn x) → le_z x y ≡ le_z u v
  le_same x y u v e = cases (dec_le (up x + dn y) (up y + dn x))
    where
      cases : Dec (up x + dn y ≤ up y + dn x) → le_z x y ≡ le_z u v
      cases (yes h) = is_le x y h ∙ sym (is_le u v (omega arith))
      cases (no h) = is_gt x y (omega arith) ∙ sym (is_gt u v (omega arith))
