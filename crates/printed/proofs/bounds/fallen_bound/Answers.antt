-- `fallen_bound` meets its contract: an offset grows by the sum, any other bound falls by it.
use mathlib.Core.Path.{sym, ◌∙◌}
use mir.Facts.{to_z-of_z}
use Rattle.printed.proofs.Differences.{said-within, size-taken, size-beyond, fallen-over, fallen-within}
use Rattle.printed.proofs.bounds.fallen_bound.Goals as goal

pub returns-in_err-f : goal.returns-in_err-f
returns-in_err-f c =
    rw c.from_residual.ensures
    (fallen-over c.args.kind c.args.bound c.args.fall (size-beyond _ _ c.try_from.ensures c.in_err-f.ensures.value))

pub returns-then-is_objective : goal.returns-then-is_objective
returns-then-is_objective c =
    let t = size-taken _ c.args.fall _ c.try_from.ensures c.in_ok-f.ensures.value in
    said-within _ _ (simp (t.is, to_z-of_z c.ranges.bound, to_z-of_z t.fits) at c.checked_add.ensures)
    ∙ fallen-within c.args.kind c.args.bound c.args.fall t.small (rw (sym c.is_objective.ensures ∙ c.if-is_objective.true))

pub returns-else-is_objective : goal.returns-else-is_objective
returns-else-is_objective c =
    let t = size-taken _ c.args.fall _ c.try_from.ensures c.in_ok-f.ensures.value in
    said-within _ _ (simp (t.is, to_z-of_z c.ranges.bound, to_z-of_z t.fits) at c.checked_sub.ensures)
    ∙ fallen-within c.args.kind c.args.bound c.args.fall t.small (rw (sym c.is_objective.ensures ∙ c.if-is_objective.false))
