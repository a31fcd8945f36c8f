-- `verdicts::objective` meets its contract: the library's sum is there exactly where 64 signed bits hold it. Assumes
-- nothing.
use mir.Facts.{to_z-of_z}
use Rattle.definitions.proofs.Whole.{in-true}
use Rattle.fits.proofs.Sums.{out-false}
use Rattle.verdicts.proofs.objective.Goals as goal

pub returns-in-Some : goal.returns-in-Some
returns-in-Some c =
    let h = simp (to_z-of_z c.ranges.sum, to_z-of_z c.ranges.bound) at c.in-Some.ensures in
    rw (h.1, to_z-of_z h.0, in-true _ h.0)

pub returns-in-None : goal.returns-in-None
returns-in-None c =
    let h = simp (to_z-of_z c.ranges.sum, to_z-of_z c.ranges.bound) at c.in-None.ensures in
    rw (out-false _ h)
