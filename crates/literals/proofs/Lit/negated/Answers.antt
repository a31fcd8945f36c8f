-- `literals::Lit::negated` meets its contract: an even code has 1 added, which fits since the greatest is odd, and an
-- odd code 1 taken away. Assumes nothing.
use native.Mathlib.Omega.{arith}
use Rattle.definitions.specs.Literal.{opposite}
use Rattle.literals.proofs.Lit.negated.Goals as goal

pub returns-then-odd-eq0 : goal.returns-then-odd-eq0
unfolding opposite
returns-then-odd-eq0 c = omega arith

pub returns-else-odd-eq0 : goal.returns-else-odd-eq0
unfolding opposite
returns-else-odd-eq0 c = omega arith
