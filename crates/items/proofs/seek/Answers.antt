-- `items::seek` meets its contract. The loop's invariant: what is sought from the start on is what is sought from `at`
-- on. Assumes nothing.
use Prim.Native.Nat.{◌<◌}
use mathlib.Core.Path.{sym, ◌∙◌}
use native.Mathlib.Omega.{arith}
use lib.ListN.{length}
use Rattle.items.proofs.Spots.{seeking-end, seeking-v, seeking-lf, seeking-white, seeking-line}
use Rattle.items.proofs.Spots.{seeking-token}
use Rattle.items.proofs.seek.Goals as goal
use Rattle.items.proofs.seek.Goals.{then-opens+else-b-ne118, else-opens+then-b-eq10, else-opens+else-b-eq10+else-not-is_white}

pub returns-then-b-ne118 : goal.returns-then-b-ne118
returns-then-b-ne118 c = seeking-line _ _ _ _ _ c.loop-at.invariant (omega arith) c.if-opens.true c.if-b-ne118.true

pub returns-then-not-is_white : goal.returns-then-not-is_white
returns-then-not-is_white c =
    seeking-token _ _ _ _ _ c.loop-at.invariant (omega arith) c.if-opens.false c.if-b-eq10.false
    (sym c.is_white.ensures ∙ c.if-not-is_white.true)

pub loop-at-preserved-then-not-opens : goal.loop-at-preserved-then-not-opens
loop-at-preserved-then-not-opens c =
    let h : c.loop-at.at < length c.args.block.now = omega arith in
    rw c.if-not-opens.true (seeking-white _ _ _ _ _ c.loop-at.invariant h c.if-not-opens.true (omega arith) (rw c.if-b-eq32.true))

pub loop-at-preserved : goal.loop-at-preserved
loop-at-preserved c =
    let h : c.loop-at.at < length c.args.block.now = omega arith in
    elim c.if-opens.branch [
      | then-opens+else-b-ne118 w ↦ rw w.opens-is (seeking-v _ _ _ _ _ c.loop-at.invariant h w.if-opens.true w.if-b-ne118.false)
      | else-opens+then-b-eq10 w ↦ rw w.opens-is (seeking-lf _ _ _ _ _ c.loop-at.invariant h w.if-opens.false w.if-b-eq10.true)
      | else-opens+else-b-eq10+else-not-is_white w ↦
          rw (w.opens-is ∙ w.if-opens.false)
          (seeking-white _ _ _ _ _ c.loop-at.invariant h w.if-opens.false w.if-b-eq10.false
          (sym w.is_white.ensures ∙ w.if-not-is_white.false))
    ]

pub returns : goal.returns
returns c = seeking-end _ _ _ _ _ c.loop-at.invariant (omega arith)
