-- `blanks::blanks_of` meets its contract. The loop's invariant: i blanks are passed. Assumes nothing.
use native.Mathlib.Omega.{arith}
use mathlib.Core.Logic.{inl, inr}
use Rattle.blanks.proofs.Blanks.{passed_none, passed-all, passed-end, passed-more}
use Rattle.blanks.proofs.blanks_of.Goals as goal
use Rattle.blanks.proofs.blanks_of.Goals.{else-b-ne32-via-then-b-ne32+else-b-ne9, else-b-ne32-via-else-b-ne32}

pub loop-i-init : goal.loop-i-init
loop-i-init c = passed_none _

pub returns-then-b-ne9 : goal.returns-then-b-ne9
returns-then-b-ne9 c = passed-end _ _ c.loop-i.invariant (omega arith) c.if-b-ne32.true c.if-b-ne9.true

pub loop-i-preserved : goal.loop-i-preserved
loop-i-preserved c =
    passed-more _ _ c.loop-i.invariant (omega arith)
    (elim c.else-b-ne32.branch [ else-b-ne32-via-then-b-ne32+else-b-ne9 w ↦ inr (omega arith) | else-b-ne32-via-else-b-ne32 w ↦ inl (omega arith) ])

pub returns : goal.returns
returns c = passed-all _ _ c.loop-i.invariant (omega arith)
