-- `literals::Lit::is_pos` meets its contract. Assumes nothing.
use mathlib.Core.Path.{◌≡◌, refl}
use mathlib.Core.Bool.{not}
use Prim.Native.Nat.{ℕ, zero, suc, ◌%◌, ◌<◌}
use native.Mathlib.Omega.{arith}
use lib.Dec.{eqb}
use Rattle.literals.proofs.Lit.is_pos.Goals as goal

-- of the two remainders, one test or the other
other_test : (n : ℕ) → n < 2 → eqb n 0 ≡ not (eqb n 1)
other_test zero h = refl
other_test (suc zero) h = refl
other_test (suc (suc n)) h = absurd (omega arith)

pub returns : goal.returns
returns c = other_test (c.args.self.0 % 2) (omega arith)
