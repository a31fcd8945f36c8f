-- Laws of how many digits a number has, by the powers of ten that are at most it.
use mathlib.Core.Path.{◌≡◌, refl, ap}
use Prim.Native.Nat.{ℕ, zero, suc, ◌+◌, ◌-◌, ◌*◌, ◌/◌, ◌^◌, ◌≤◌, ◌<◌}
use native.Mathlib.Omega.{arith}
use native.Mathlib.Decide.{dec_lt}
use native.Mathlib.Numerals.{add-one}
use lib.ListN.{length}
use Rattle.definitions.specs.Number.{decimal}
use Rattle.laws.proofs.Digits.{tens, no_longer}
use Rattle.definitions.proofs.Numbers.{decimal-length-big, decimal-some}

tens-some : (n : ℕ) → 0 < tens n
unfolding tens
tens-some zero = omega arith
tens-some (suc n) = let h = tens-some n in omega arith

tens-grow : (k n : ℕ) → tens n ≤ tens (n + k)
unfolding tens
tens-grow zero n = let e : n + 0 ≡ n = omega arith in rw e (omega arith)
tens-grow (suc k) n = let h = tens-grow k n in let e : n + suc k ≡ suc (n + k) = omega arith in rw e (omega arith)

longer : (n m : ℕ) → tens n ≤ m → n < length (decimal m)
unfolding tens
longer zero m h = decimal-some m
longer (suc n) m h =
    let g : 10 ≤ m = omega (arith, tens-some n) in
    let r = longer n (m / 10) (omega arith) in
    omega (arith, decimal-length-big m g)

-- so many digits at least, and the least number that has one more
pub record Counting (m n power : ℕ) : Type 0 where
  pub is : power ≡ tens n
  pub some : 1 ≤ n
  pub most : n ≤ 19
  pub least : n ≤ length (decimal m)

pub counting-start : (m : ℕ) → Counting m 1 10
unfolding tens
counting-start m = record { is = refl; some = omega arith; most = omega arith; least = omega (arith, decimal-some m) }

module _ (m n power : ℕ) (w : Counting m n power) where
  pub counting-end : m < power → n ≡ length (decimal m)
  counting-end h = by n w.some w.least (rw w.is at h)
    where
      by : (k : ℕ) → 1 ≤ k → k ≤ length (decimal m) → m < tens k → k ≡ length (decimal m)
      by zero s l g = absurd (omega arith)
      by (suc k) s l g = omega (arith, no_longer k m g)

  module _ (h : power ≤ m) where
    one_more : n + 1 ≤ length (decimal m)
    one_more = omega (arith, longer n m (rw w.is at h))

    pub counting-last : n + 1 ≡ 20 → m < 2 ^ 64 → n + 1 ≡ length (decimal m)
    unfolding tens
    counting-last e f = omega (arith, one_more, no_longer 19 m (omega arith))

    module _ (e : n + 1 ≡ 20 → ⊥) where
      before_last : n ≤ 18
      before_last = cases (dec_lt n 19)
        where
          cases : Dec (n < 19) → n ≤ 18
          cases (yes l) = omega arith
          cases (no l) = absurd (e (omega (arith, w.most)))

      pub counting-small : power ≤ 1_000_000_000_000_000_000
      unfolding tens
      counting-small =
          let d : n + (18 - n) ≡ 18 = omega (arith, before_last) in
          rw w.is (rw d at (tens-grow (18 - n) n))

      pub counting_more : Counting m (n + 1) (power * 10)
      unfolding tens
      counting_more =
          let more : power * 10 ≡ tens n * 10 = ap (λ (p : ℕ). p * 10) w.is in
          rw add-one (record { is = more; some = omega arith; most = omega (arith, before_last); least = omega (arith, one_more) })
