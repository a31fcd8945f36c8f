-- `read_digits` meets its contract: no digits are refusal 4, and else the literal is that of the definition
-- (proofs/Literals.antt).
use mathlib.Core.Path.{◌≡◌, ap, ◌∙◌}
use Rattle.definitions.specs.Refusal.{fault}
use Rattle.definitions.specs.Reader.{none}
use Rattle.std.proofs.lemmas.Result.{err_from_is_err_and}
use Rattle.literal_read.proofs.Literals.{digits-missing, digits-coded}
use Rattle.literal_read.proofs.read_digits.Goals as goal

pub returns-then-run-eq0 : goal.returns-then-run-eq0
returns-then-run-eq0 c = digits-missing _ _ _ _ c.read_run-run.ensures c.if-run-eq0.true

pub returns-in_err-literal : goal.returns-in_err-literal
returns-in_err-literal c =
    let p = err_from_is_err_and c.from_residual.result c.from_residual.ensures.1 in
    let d = digits-coded _ _ _ _ c.read_run-run.ensures c.if-run-eq0.false c.of_digits.result c.of_digits.ensures in
    let h = c.in_err-literal.ensures in
    let v = rw h.ok_part at h.value in
    let e : c.in_err-literal.field-0.0 ≡ fault 5 = cc in
    rw (p.1, p.2) (ap none e ∙ rw h.ok_part at d)

pub returns : goal.returns
returns c =
    let d = digits-coded _ _ _ _ c.read_run-run.ensures c.if-run-eq0.false c.of_digits.result c.of_digits.ensures in
    rw c.in_ok-literal.ensures.ok_part at d
