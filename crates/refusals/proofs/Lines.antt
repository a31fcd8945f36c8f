-- The line of a refusal: its length.
use mathlib.Core.Path.{◌≡◌}
use mathlib.Core.List.{[], ◌∷◌, ◌++◌}
use Prim.Native.Nat.{ℕ, ◌+◌}
use native.Mathlib.Omega.{arith}
use lib.ListN.{length, length-append}
use Rattle.definitions.specs.Refusal.{refusal}
use Rattle.definitions.specs.Bytes.{lf}
use Rattle.definitions.specs.Number.{decimal}
use Rattle.definitions.specs.House.{field, refused_line}

pub refused-length : (number place : ℕ)
    → length (refused_line (refusal number place)) ≡ length (decimal number) + length (decimal place) + 10
unfolding refused_line
refused-length number place =
    let p = field (decimal place) ++ (lf ∷ []) in
    omega (arith, length-append (field (decimal number)) p, length-append (field (decimal place)) (lf ∷ []))
