-- The walk over weights: a size that stops at the cap, and what is left of the weights.
use mathlib.Core.Path.{◌≡◌}
use mathlib.Core.List.{List}
use Prim.Native.Nat.{ℕ, ◌+◌, ◌≤◌, ◌<◌}
use native.Mathlib.Numerals.{add-one}
use native.Mathlib.Omega.{arith}
use lib.ListN.{length, get_or, drop, drop_of_length-le}
use lib.IntN.{pos, ℤ, nat_abs}
use lib.Seq.{drop-cons}
use Rattle.term_checks.specs.Sizes.{size_cap, capped}
use Rattle.term_checks.specs.TermTests.{weight_sizes}

-- after i weights
pub record Summed (ws : List ℤ) (i size : ℕ) : Type 0 where
  pub under : size ≤ size_cap
  pub left : capped (size + weight_sizes (drop i ws)) ≡ capped (weight_sizes ws)

pub summed-none : (ws : List ℤ) → Summed ws 0 0
summed-none ws = record { under = omega arith; left = omega arith }

pub summed-more : (ws : List ℤ) (i size : ℕ) → Summed ws i size → i < length ws
    → Summed ws (i + 1) (capped (size + nat_abs (get_or ws i (pos 0))))
summed-more ws i size s h =
    let e : weight_sizes (drop i ws) ≡ nat_abs (get_or ws i (pos 0)) + weight_sizes (drop (i + 1) ws) = step in
    record { under = omega arith; left = omega (arith, s.left) }
  where
    step : weight_sizes (drop i ws) ≡ nat_abs (get_or ws i (pos 0)) + weight_sizes (drop (i + 1) ws)
    step = unfold weight_sizes in rw (drop-cons ws i (pos 0) h, add-one)

pub summed-all : (ws : List ℤ) (i size : ℕ) → Summed ws i size → length ws ≤ i → size ≡ capped (weight_sizes ws)
summed-all ws i size s h =
    let e : weight_sizes (drop i ws) ≡ 0 = none in
    omega (arith, s.left, s.under)
  where
    none : weight_sizes (drop i ws) ≡ 0
    none = unfold weight_sizes in rw (drop_of_length-le ws h)
