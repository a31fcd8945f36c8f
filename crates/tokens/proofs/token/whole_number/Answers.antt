-- `tokens::whole_number` meets its contract: no digits, or fewer than there are bytes, are 21; else the number is what
-- the run says. Assumes nothing.
use mathlib.Core.Logic.{inl, inr}
use native.Mathlib.Omega.{arith}
use Rattle.tokens.proofs.Says.{whole-bad, whole-number}
use Rattle.tokens.proofs.token.whole_number.Goals as goal
use Rattle.tokens.proofs.token.whole_number.Goals.{then-run-eq0-via-then-run-eq0, then-run-eq0-via-else-run-eq0+then-run-s}

pub returns-then-run-eq0 : goal.returns-then-run-eq0
returns-then-run-eq0 c =
    whole-bad _ _ c.read_run-run.ensures
    (elim c.then-run-eq0.branch [
      | then-run-eq0-via-then-run-eq0 w ↦ inl w.if-run-eq0.true
      | then-run-eq0-via-else-run-eq0+then-run-s w ↦ inr w.if-run-s.true
    ])

pub returns : goal.returns
returns c = whole-number _ _ c.read_run-run.ensures c.if-run-eq0.false (omega (arith, c.if-run-s.false))
