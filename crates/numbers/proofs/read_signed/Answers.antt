-- `read_signed` meets its contract: a size that was cut off at the cap is judged as the value itself
-- (proofs/DigitWalk.antt).
use native.Mathlib.Omega.{arith}
use mir.Syntax.{w64}
use mir.Val.{SFits}
use mir.Facts.{to_z-of_z}
use Rattle.numbers.proofs.DigitWalk.{run_length, run_none, run-beyond, run-got}
use Rattle.numbers.proofs.read_signed.Goals as goal

pub returns-then-run-eq0 : goal.returns-then-run-eq0
returns-then-run-eq0 c = run_none _ _ _ _ c.read_run-run.ensures c.if-run-eq0.true

pub returns-in_err-number : goal.returns-in_err-number
returns-in_err-number c = rw c.from_residual.ensures (run-beyond _ _ _ _ c.read_run-run.ensures c.in_err-number.ensures)

pub overflow_add-result : goal.overflow_add-result
overflow_add-result c = omega (arith, run_length _ _ c.read_run-run.ensures, c.requires)

pub returns : goal.returns
returns c =
    let e = c.in_ok-number.ensures in
    let f : SFits w64 c.in_ok-number.number = rw e.1 e.0 in
    rw (to_z-of_z f, e.1) (run-got _ _ _ _ c.read_run-run.ensures c.if-run-eq0.false e.0)
