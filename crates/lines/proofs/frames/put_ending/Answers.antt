-- `put_ending` meets its contract: `;` and the line's end, and the offset behind them.
use mir.Facts.{to_z-of_z}
use Rattle.puts.proofs.SeveralLaws.{each-one, each-then}
use Rattle.lines.proofs.frames.put_ending.Goals as goal

pub returns : goal.returns
returns c =
    each-then (each-one c.put_text-line.ensures) (rw (to_z-of_z c.ranges.z) at c.put_offset.ensures)
