-- `shifts::rise_of` meets its contract. The loop's invariant: the rise so far and that of the weights left are the
-- whole, up to the cap (`Risen`, proofs/Rises.antt). Assumes nothing.
use Rattle.std.proofs.Common.{◌∙◌, pos, get_or, w64, FitsSigned, rules}
use mir.Facts.{to_z-of_z}
use Rattle.shifts.proofs.Rises.{risen-more, risen-same, risen-all}
use Rattle.shifts.proofs.rise_of.Goals as goal
use Rattle.shifts.proofs.rise_of.Goals.{then-weight-lt0, else-weight-lt0}

pub loop-weight-preserved : goal.loop-weight-preserved
loop-weight-preserved c =
    let l = c.loop-weight in
    let ws = c.args.weights.now in
    let f : FitsSigned w64 (get_or ws l.weight-index (pos 0)) = search rules in
    let h = c.loop-weight-test.true in
    elim c.if-weight-lt0.branch [
      | then-weight-lt0 w ↦
          rw (w.rise-is, w.add_size-rise.ensures, to_z-of_z f)
          (risen-more ws l.weight-index l.rise l.invariant h (rw (to_z-of_z f) at w.if-weight-lt0.true))
      | else-weight-lt0 w ↦
          rw w.rise-is (risen-same ws l.weight-index l.rise l.invariant h (rw (to_z-of_z f) at w.if-weight-lt0.false))
    ]

pub returns : goal.returns
returns c = let l = c.loop-weight in c.min.ensures ∙ risen-all _ l.weight-index l.rise l.invariant c.loop-weight-test.false
