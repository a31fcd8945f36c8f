-- `normaliser::fill::normal_term` meets its contract: a weight whose size is at most M has its opposite in 64 signed
-- bits. Assumes nothing.
use mathlib.Core.Path.{◌≡◌, ap₂, ◌∙◌}
use mathlib.Core.Bool.{true}
use lib.IntN.{pos}
use lib.Signed.{lt_z}
use mir.Facts.{to_z-of_z}
use Rattle.definitions.specs.Row.{term}
use Rattle.normaliser.proofs.NormalTerms.{opposite-in, opposite-is, normal-below, normal-from-zero}
use Rattle.normaliser.proofs.fill.normal_term.Goals as goal
use Rattle.normaliser.proofs.fill.normal_term.Goals.{Then-weight-lt0}

below : (c : Then-weight-lt0) → lt_z c.args.weight (pos 0) ≡ true
below c = rw (to_z-of_z c.ranges.weight) at c.if-weight-lt0.true

pub overflow_sub-result : goal.overflow_sub-result
overflow_sub-result c = rw (to_z-of_z c.ranges.weight) (opposite-in c.args.weight c.requires)

pub returns-then-weight-lt0 : goal.returns-then-weight-lt0
returns-then-weight-lt0 c =
    ap₂ term (opposite-is c.args.weight c.ranges.weight c.requires) c.negated-opposite.ensures
    ∙ normal-below c.args.weight c.args.literal.0 (below c)

pub returns-else-weight-lt0 : goal.returns-else-weight-lt0
returns-else-weight-lt0 c =
    let f = c.ranges.weight in
    rw (to_z-of_z f) (normal-from-zero c.args.weight c.args.literal.0 (rw (to_z-of_z f) at c.if-weight-lt0.false))
