-- Laws of what code computes on signed numbers: −k of a size k below 2 ^ 63.
use mathlib.Core.Path.{◌≡◌}
use Prim.Native.Nat.{ℕ, zero, suc, ◌<◌, ◌^◌}
use native.Mathlib.Omega.{arith}
use lib.IntN.{pos, neg_ℤ, ◌-ℤ◌, +ℤ_idl}
use mir.Syntax.{w64}
use mir.Val.{SFits, to_z}
use mir.Facts.{to_z_pos}

pub neg-sfits : (k : ℕ) → k < 2 ^ 63 → SFits w64 (neg_ℤ (pos k))
neg-sfits zero h = record { sfits = omega arith }
neg-sfits (suc k) h = record { sfits = omega arith }

-- as the code computes it
pub neg_is : (k : ℕ) → k < 2 ^ 63 → pos 0 -ℤ to_z w64 k ≡ neg_ℤ (pos k)
neg_is k h = simp (to_z_pos w64 h, +ℤ_idl)
