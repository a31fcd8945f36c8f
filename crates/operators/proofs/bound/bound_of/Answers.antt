-- `bound_of` meets its contract: the number, or one less or one more, if that is in 64 bits (proofs/BoundLaws.antt).
use mir.Facts.{to_z-of_z}
use Rattle.operators.proofs.BoundLaws.{same-compared, compared-checked}
use Rattle.operators.proofs.bound.bound_of.Goals as goal

pub returns-in-LE : goal.returns-in-LE
returns-in-LE c = rw (to_z-of_z c.ranges.number) (same-compared _ _ c.in-LE.is c.ranges.number)

pub returns-in-LT : goal.returns-in-LT
returns-in-LT c = rw c.in-LT.is (compared-checked _ _ (rw (to_z-of_z c.ranges.number) at c.checked_sub.ensures))

pub returns-in-GT : goal.returns-in-GT
returns-in-GT c = rw c.in-GT.is (compared-checked _ _ (rw (to_z-of_z c.ranges.number) at c.checked_add.ensures))
