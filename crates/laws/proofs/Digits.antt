-- How many digits does a number have? At most n, where it is below ten to the n: so 20 of a count, and 19 and a sign of
-- a number.
use Prim.Native.Nat.{ℕ, zero, suc, ◌*◌, ◌/◌, ◌^◌, ◌≤◌, ◌<◌}
use native.Mathlib.Decide.{dec_lt}
use native.Mathlib.Omega.{arith}
use lib.ListN.{length}
use lib.IntN.{ℤ, pos, negsuc}
use mir.Syntax.{w64}
use mir.Val.{SFits}
use Rattle.definitions.specs.Number.{decimal, integer_text}
use Rattle.definitions.proofs.Numbers.{decimal-length-small, decimal-length-big}

-- ten times as much n times
unfoldable pub tens : ℕ → ℕ
tens zero = 1
tens (suc n) = tens n * 10

pub no_longer : (n m : ℕ) → m < tens (suc n) → length (decimal m) ≤ suc n
unfolding tens
no_longer zero m h = omega (arith, decimal-length-small m (omega arith))
no_longer (suc n) m h = cases (dec_lt m 10) (no_longer n (m / 10) (omega arith))
  where
    cases : Dec (m < 10) → length (decimal (m / 10)) ≤ suc n → length (decimal m) ≤ suc (suc n)
    cases (yes l) r = omega (arith, decimal-length-small m l)
    cases (no l) r = omega (arith, decimal-length-big m (omega arith))

pub count-length-most : (n : ℕ) → n < 2 ^ 64 → length (decimal n) ≤ 20
unfolding tens
count-length-most n h = no_longer 19 n (omega arith)

pub number-length-most : (z : ℤ) → SFits w64 z → length (integer_text z) ≤ 20
unfolding tens
number-length-most (pos n) f = omega (arith, no_longer 18 n (omega (arith, f.sfits)))
number-length-most (negsuc n) f = omega (arith, no_longer 18 (suc n) (omega (arith, f.sfits)))
