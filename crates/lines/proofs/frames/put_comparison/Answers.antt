-- `put_comparison` meets its contract: the operator, the bound, and the line's end.
use mir.Facts.{to_z-of_z}
use Rattle.puts.proofs.SeveralLaws.{each-one, each-then}
use Rattle.lines.proofs.frames.put_comparison.Goals as goal

pub returns : goal.returns
returns c =
    each-then (each-one c.put_operator-number.ensures)
    (each-then (each-one (rw (to_z-of_z c.ranges.z) at c.put_number-end.ensures)) (each-one c.put_text.ensures))
