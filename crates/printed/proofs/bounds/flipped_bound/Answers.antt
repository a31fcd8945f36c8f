-- `flipped_bound` meets its contract: the weight sum less the bound of an "at most" row, else the bound.
use mathlib.Core.Path.{sym, ◌∙◌}
use mir.Facts.{to_z-of_z}
use Rattle.printed.proofs.Differences.{within-fits, said-within}
use Rattle.printed.proofs.bounds.flipped_bound.Goals as goal

pub returns-then-is_at_most : goal.returns-then-is_at_most
returns-then-is_at_most c =
    rw (sym c.is_at_most.ensures ∙ c.if-is_at_most.true)
    (said-within _ _ (simp (to_z-of_z c.ranges.total, to_z-of_z c.ranges.bound) at c.checked_sub.ensures))

pub returns-else-is_at_most : goal.returns-else-is_at_most
returns-else-is_at_most c =
    rw (sym c.is_at_most.ensures ∙ c.if-is_at_most.false, to_z-of_z c.ranges.bound) (within-fits _ c.ranges.bound)
