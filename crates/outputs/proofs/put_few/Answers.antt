-- `put_few` meets its contract: the four bytes of the number that `four_digits` gives, each at its place (`stored-few`,
-- proofs/Four.antt).
use Prim.Native.Nat.{◌/◌}
use native.Mathlib.Omega.{arith}
use lib.Bits.{mask_lt}
use lib.ListN.{length-set}
use Rattle.lengths.proofs.DigitPlaces.{places-are}
use Rattle.outputs.proofs.Four.{stored-few}
use Rattle.outputs.proofs.put_few.Goals as goal

pub overflow_cast-out : goal.overflow_cast-out
overflow_cast-out c = omega (arith, mask_lt c.four_digits-d.result 8)

pub bounds-out-at : goal.bounds-out-at
bounds-out-at c = omega (arith, places-are _ c.requires.0 _ c.requires.1)

pub overflow_cast-out-2 : goal.overflow_cast-out-2
overflow_cast-out-2 c = omega (arith, mask_lt (c.four_digits-d.result / 256) 8)

pub overflow_add-out : goal.overflow_add-out
overflow_add-out c = omega (arith, places-are _ c.requires.0 _ c.requires.1)

pub bounds-out-at-2 : goal.bounds-out-at-2
bounds-out-at-2 c = simp length-set (omega (arith, places-are _ c.requires.0 _ c.requires.1))

pub overflow_cast-out-3 : goal.overflow_cast-out-3
overflow_cast-out-3 c = omega (arith, mask_lt (c.four_digits-d.result / 65536) 8)

pub overflow_add-out-2 : goal.overflow_add-out-2
overflow_add-out-2 c = omega (arith, places-are _ c.requires.0 _ c.requires.1)

pub bounds-out-at-3 : goal.bounds-out-at-3
bounds-out-at-3 c = simp length-set (omega (arith, places-are _ c.requires.0 _ c.requires.1))

pub overflow_add-out-3 : goal.overflow_add-out-3
overflow_add-out-3 c = omega (arith, places-are _ c.requires.0 _ c.requires.1)

pub bounds-out-at-4 : goal.bounds-out-at-4
bounds-out-at-4 c =
    simp length-set (omega (arith, places-are _ c.requires.0 _ c.requires.1))

pub returns : goal.returns
returns c =
    stored-few _ c.requires.0 _ c.requires.1 _ _ _ c.four_digits-d.ensures c.requires.2
