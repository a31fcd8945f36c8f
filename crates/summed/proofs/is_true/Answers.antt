-- `summed::is_true` meets its contract: the bit of the literal's variable, turned if the literal is negated. Assumes
-- nothing.
use mathlib.Core.Path.{sym, ◌∙◌}
use Rattle.summed.proofs.Literals.{true-negated, true-plain}
use Rattle.summed.proofs.is_true.Goals as goal

pub returns-then-is_neg : goal.returns-then-is_neg
returns-then-is_neg c =
    true-negated _ _ c.index-v.result (c.index-v.ensures ∙ c.var.ensures) (sym c.is_neg.ensures ∙ c.if-is_neg.true)

pub returns-else-is_neg : goal.returns-else-is_neg
returns-else-is_neg c =
    true-plain _ _ c.index-v.result (c.index-v.ensures ∙ c.var.ensures) (sym c.is_neg.ensures ∙ c.if-is_neg.false)
