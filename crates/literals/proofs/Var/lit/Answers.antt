-- `literals::Var::lit` meets its contract: an index within its limit has a code that fits. Assumes nothing.
use native.Mathlib.Omega.{arith}
use Rattle.literals.proofs.Conversions.{literal-above-limit, literal-within}
use Rattle.literals.proofs.Var.lit.Goals as goal

pub returns-then-self-gt-INDEX_LIMIT : goal.returns-then-self-gt-INDEX_LIMIT
returns-then-self-gt-INDEX_LIMIT c = literal-above-limit _ _ c.if-self-gt-INDEX_LIMIT.true

pub returns-then-negated : goal.returns-then-negated
returns-then-negated c = rw c.if-negated.true (literal-within _ _ (omega arith))

pub returns-else-negated : goal.returns-else-negated
returns-else-negated c = rw c.if-negated.false (literal-within _ _ (omega arith))
