-- `number_length` meets its contract: the digits of the size, and one byte more for the sign.
use native.Mathlib.Omega.{arith}
use mathlib.Core.Path.{◌≡◌, ap, ◌∙◌}
use Prim.Native.Nat.{ℕ}
use lib.ListN.{length}
use lib.IntN.{nat_abs}
use mir.Facts.{to_z-of_z}
use Rattle.definitions.specs.Number.{decimal}
use Rattle.definitions.proofs.Numbers.{size_fits, integer-text-negative, integer-text-positive, decimal-length-most}
use Rattle.lengths.proofs.number_length.Goals as goal
use Rattle.lengths.proofs.number_length.Goals.{After-count_length-n}

-- what the two calls say
counted : (c : After-count_length-n) → c.count_length-n.result ≡ length (decimal (nat_abs c.args.z))
counted c =
    c.count_length-n.ensures
    ∙ ap (λ (m : ℕ). length (decimal m)) (c.unsigned_abs.ensures.value ∙ ap nat_abs (to_z-of_z c.ranges.z))

pub overflow_add-result : goal.overflow_add-result
overflow_add-result c =
    let n = counted (goal.at.overflow_add-result c).After-count_length-n in
    omega (arith, n, decimal-length-most (nat_abs c.args.z), size_fits c.args.z c.ranges.z)

pub returns-then-z-lt0 : goal.returns-then-z-lt0
returns-then-z-lt0 c =
    let n = counted (goal.at.returns-then-z-lt0 c).After-count_length-n in
    rw (integer-text-negative c.args.z (rw (to_z-of_z c.ranges.z) at c.if-z-lt0.true)) (omega (arith, n))

pub returns-else-z-lt0 : goal.returns-else-z-lt0
returns-else-z-lt0 c =
    rw (integer-text-positive c.args.z (rw (to_z-of_z c.ranges.z) at c.if-z-lt0.false))
    (counted (goal.at.returns-else-z-lt0 c).After-count_length-n)
