-- `blanks::lf_by_bytes` meets its contract. The loop's invariant: i bytes are passed and none is an LF. Assumes nothing.
use native.Mathlib.Omega.{arith}
use Rattle.blanks.proofs.LfGroups.{none-more}
use Rattle.blanks.proofs.lf_by_bytes.Goals as goal

pub loop-i-init : goal.loop-i-init
loop-i-init c = λ k h. absurd (omega arith)

pub returns-then-b-eq-LF : goal.returns-then-b-eq-LF
returns-then-b-eq-LF c = record { within = c.loop-i.auto.i-end; none = c.loop-i.invariant; is = λ h. c.if-b-eq-LF.true }

pub loop-i-preserved : goal.loop-i-preserved
loop-i-preserved c = none-more c.args.s.now c.loop-i.i c.loop-i.invariant c.if-b-eq-LF.false

pub returns : goal.returns
returns c = record { within = omega arith; none = λ k h. c.loop-i.invariant k (omega arith); is = λ h. absurd (omega arith) }
