-- Whether the sum of two numbers is in 64 signed bits: exactly where the library's checked sum is there.
use Rattle.std.proofs.Common.{◌≡◌, ℤ, ◌+ℤ◌, Bool, true, false, refl, sym, Option, Some, None, is_some, SomeIff, FitsSigned, w64, to_z, of_z}
use mir.Facts.{to_z-of_z}
use Rattle.definitions.specs.Limits.{in_i64}
use Rattle.definitions.proofs.Whole.{in-true, true-in}

pub out-false : (z : ℤ) → (FitsSigned w64 z → ⊥) → in_i64 z ≡ false
out-false z h = cases (in_i64 z) refl
  where
    cases : (b : Bool) → in_i64 z ≡ b → in_i64 z ≡ false
    cases true e = absurd (h (true-in z e))
    cases false e = e

there-in : (o : Option ℤ) (z v : ℤ) → SomeIff o (FitsSigned w64 z) v → is_some o ≡ in_i64 z
there-in (Some x) z v h = sym (in-true z h.0)
there-in None z v h = sym (out-false z h)

-- of numbers as the code passes them, by their bits
pub sum_there : (o : Option ℤ) (x y v : ℤ) → FitsSigned w64 x → FitsSigned w64 y
    → SomeIff o (FitsSigned w64 (to_z w64 (of_z w64 x) +ℤ to_z w64 (of_z w64 y))) v → is_some o ≡ in_i64 (x +ℤ y)
sum_there o x y v f g h = there-in o (x +ℤ y) v (simp (to_z-of_z f, to_z-of_z g) at h)
