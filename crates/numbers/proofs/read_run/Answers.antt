-- `read_run` meets its contract: the loop walks over the digits, and cuts their value off at the cap (`Walked`,
-- proofs/DigitWalk.antt).
use native.Mathlib.Omega.{arith}
use Rattle.numbers.proofs.DigitWalk.{walked_none, walked_low, walked-high, walked-add, walked-over, walked_all}
use Rattle.numbers.proofs.read_run.Goals as goal
use Rattle.numbers.proofs.read_run.Goals.{then-size, else-size}

pub loop-i-init : goal.loop-i-init
loop-i-init c = walked_none _

pub returns-in_default : goal.returns-in_default
returns-in_default c = walked_low _ _ _ c.loop-i.invariant c.loop-i-test.true (omega arith)

pub returns-in_default-2 : goal.returns-in_default-2
returns-in_default-2 c = walked-high _ _ _ c.loop-i.invariant c.loop-i-test.true (omega arith)

pub loop-i-preserved : goal.loop-i-preserved
loop-i-preserved c =
    let w = c.loop-i.invariant in
    let h = c.loop-i-test.true in
    elim c.if-size.branch [
      | then-size v ↦ rw v.size-is (walked-add _ _ _ w h (omega arith) (omega arith) (omega arith))
      | else-size v ↦ rw v.size-is (walked-over _ _ _ w h (omega arith) (omega arith) (omega arith))
    ]

pub returns : goal.returns
returns c = walked_all _ _ _ c.loop-i.invariant c.loop-i-test.false
