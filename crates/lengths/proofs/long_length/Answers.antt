-- `long_length` meets its contract: the loop goes through the powers of ten that are at most m (`Counting`,
-- proofs/Counts.antt).
use native.Mathlib.Omega.{arith}
use Rattle.lengths.proofs.Counts.{counting-start, counting-end, counting-last, counting-small, counting_more}
use Rattle.lengths.proofs.long_length.Goals as goal

pub loop-power-init : goal.loop-power-init
loop-power-init c = counting-start _

pub returns-then-n-eq20 : goal.returns-then-n-eq20
returns-then-n-eq20 c =
    let l = c.loop-power in
    counting-last _ l.n l.power l.invariant c.loop-power-test.true c.if-n-eq20.true (omega arith)

pub overflow_mul-power : goal.overflow_mul-power
overflow_mul-power c =
    let l = c.loop-power in
    omega (arith, counting-small _ l.n l.power l.invariant c.loop-power-test.true c.if-n-eq20.false)

pub loop-power-preserved : goal.loop-power-preserved
loop-power-preserved c =
    let l = c.loop-power in
    counting_more _ l.n l.power l.invariant c.loop-power-test.true c.if-n-eq20.false

pub returns : goal.returns
returns c =
    let l = c.loop-power in
    counting-end _ l.n l.power l.invariant c.loop-power-test.false
