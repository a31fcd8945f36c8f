-- `count_length` meets its contract: below 10,000 the ones stand at the end of the text (`last-place`,
-- proofs/DigitPlaces.antt).
use native.Mathlib.Omega.{arith}
use mathlib.Core.Path.{◌≡◌}
use Prim.Native.Nat.{◌+◌}
use lib.ListN.{length}
use Rattle.definitions.specs.Number.{decimal}
use Rattle.definitions.proofs.Numbers.{decimal-length-most}
use Rattle.lengths.proofs.DigitPlaces.{last-place}
use Rattle.lengths.proofs.count_length.Goals as goal
use Rattle.lengths.proofs.count_length.Goals.{After-places_of-p}

counted : (c : After-places_of-p) → c.places_of-p.result.ones + 1 ≡ length (decimal c.args.m)
counted c = last-place c.args.m c.if-m-ge10000.false _ c.places_of-p.ensures

pub overflow_add-result : goal.overflow_add-result
overflow_add-result c =
    omega (arith, counted (goal.at.overflow_add-result c).After-places_of-p, decimal-length-most c.args.m, c.if-m-ge10000.false)

pub returns : goal.returns
returns c = counted (goal.at.returns c).After-places_of-p
