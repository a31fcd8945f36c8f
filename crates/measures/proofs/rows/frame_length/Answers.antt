-- `frame_length` meets its contract, kind by kind.
use native.Mathlib.Omega.{arith}
use mathlib.Core.Path.{sym, ap, ◌∙◌}
use mir.Syntax.{w64}
use mir.Val.{to_z, of_z}
use mir.Facts.{to_z-of_z}
use Rattle.laws.proofs.Digits.{number-length-most}
use Rattle.measures.proofs.Frames.{frame-at-least, frame-equal, frame-no-offset, frame-offset}
use Rattle.measures.proofs.rows.frame_length.Goals as goal

pub overflow_add-result : goal.overflow_add-result
overflow_add-result c = omega (arith, rw (to_z-of_z c.ranges.z) at c.number_length-n.ensures, number-length-most c.args.z c.ranges.z)

pub overflow_add-result-in-Equal : goal.overflow_add-result-in-Equal
overflow_add-result-in-Equal c =
    omega (arith, rw (to_z-of_z c.ranges.z) at c.number_length-n.ensures, number-length-most c.args.z c.ranges.z)

pub overflow_add-result-in-Objective-2 : goal.overflow_add-result-in-Objective-2
overflow_add-result-in-Objective-2 c =
    omega (arith, rw (to_z-of_z c.ranges.z) at c.number_length-n.ensures, number-length-most c.args.z c.ranges.z)

pub returns-in-AtLeast : goal.returns-in-AtLeast
returns-in-AtLeast c =
    omega (arith, rw (to_z-of_z c.ranges.z) at c.number_length-n.ensures, frame-at-least c.args.kind c.args.z c.in-AtLeast.is)

pub returns-in-Equal : goal.returns-in-Equal
returns-in-Equal c =
    rw c.in-Equal.is (omega (arith, rw (to_z-of_z c.ranges.z) at c.number_length-n.ensures, frame-equal c.args.z))

pub returns-in-Objective : goal.returns-in-Objective
returns-in-Objective c =
    rw c.in-Objective.is (sym (frame-no-offset c.args.z (sym (to_z-of_z c.ranges.z) ∙ ap (to_z w64) c.if-z-eq0.true)))

pub returns-in-Objective-2 : goal.returns-in-Objective-2
returns-in-Objective-2 c =
    rw c.in-Objective-2.is
    (omega (
      arith,
      rw (to_z-of_z c.ranges.z) at c.number_length-n.ensures,
      frame-offset c.args.z (λ e. c.if-z-eq0.false (ap (of_z w64) e)),
    ))
