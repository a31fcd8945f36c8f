-- `put_term` meets its contract: both columns have the place, or neither changes (proofs/Walking.antt).
use native.Mathlib.Omega.{arith}
use mir.Facts.{to_z-of_z}
use Rattle.sums.proofs.Walking.{put-there, put-nowhere}
use Rattle.sums.proofs.put_term.Goals as goal

pub returns-then-at-term_room : goal.returns-then-at-term_room
returns-then-at-term_room c =
    let a = c.args in
    rw (to_z-of_z c.ranges.weight, c.code.ensures)
    (put-there a.at a.weight a.literal.0 a.weights.now a.literals.now
    (omega (arith, c.term_room.ensures, c.if-at-term_room.true)))

pub returns-else-at-term_room : goal.returns-else-at-term_room
returns-else-at-term_room c =
    let a = c.args in
    put-nowhere a.at a.weight a.literal.0 a.weights.now a.literals.now
    (omega (arith, c.term_room.ensures, c.if-at-term_room.false))
