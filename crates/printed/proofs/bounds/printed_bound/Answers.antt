-- `printed_bound` meets its contract: the weight sum, then the bound before the fall, then after it.
use mathlib.Core.Path.{ap, ◌∙◌}
use mir.Facts.{to_z-of_z}
use Rattle.printed.specs.Bounds.{fallen_bound}
use Rattle.printed.proofs.Differences.{within-taken, size-taken, size-beyond, printed-over, printed-then}
use Rattle.printed.proofs.bounds.printed_bound.Goals as goal

pub returns-in_err-total : goal.returns-in_err-total
returns-in_err-total c =
    rw c.from_residual.ensures (printed-over _ _ _ _ (size-beyond _ _ c.try_from.ensures c.in_err-total.ensures.value))

pub returns-in_err-flipped : goal.returns-in_err-flipped
returns-in_err-flipped c =
    let t = size-taken _ c.args.sums.total _ c.try_from.ensures c.in_ok-total.ensures.value in
    rw c.from_residual-in_err-flipped.ensures
    (printed-then c.args.kind c.args.bound c.args.sums.total c.args.sums.fall _ t.small
    (simp (t.is, to_z-of_z c.ranges.bound, to_z-of_z t.fits) at c.in_err-flipped.ensures))

pub returns : goal.returns
returns c =
    let t = size-taken _ c.args.sums.total _ c.try_from.ensures c.in_ok-total.ensures.value in
    c.fallen_bound.ensures
    ∙ ap (fallen_bound c.args.kind c.args.sums.fall) (to_z-of_z (within-taken _ _ c.in_ok-flipped.ensures))
    ∙ printed-then c.args.kind c.args.bound c.args.sums.total c.args.sums.fall _ t.small
    (simp (t.is, to_z-of_z c.ranges.bound, to_z-of_z t.fits) at c.in_ok-flipped.ensures)
