-- `literals::Var::of_file` meets its contract: each answer has its law in Conversions. Assumes nothing.
use native.Mathlib.Omega.{arith}
use Rattle.literals.proofs.Conversions.{index-below-first, index-above-limit, index-within}
use Rattle.literals.proofs.Var.of_file.Goals as goal

pub returns-in_err-v : goal.returns-in_err-v
returns-in_err-v c = rw c.from_residual.ensures (index-below-first _ _ (omega (arith, c.in_err-v.ensures)))

pub returns-then-v-le-INDEX_LIMIT : goal.returns-then-v-le-INDEX_LIMIT
returns-then-v-le-INDEX_LIMIT c =
    let e = c.in_ok-v.ensures in
    rw e.1 (index-within _ _ (omega arith) e.0 (omega (arith, e.1)))

pub returns-else-v-le-INDEX_LIMIT : goal.returns-else-v-le-INDEX_LIMIT
returns-else-v-le-INDEX_LIMIT c = index-above-limit _ _ (omega (arith, c.in_ok-v.ensures.1))
