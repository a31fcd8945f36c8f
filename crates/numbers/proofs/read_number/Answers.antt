-- `read_number` meets its contract: a sign or none, and then the digits behind it.
use native.Mathlib.Omega.{arith}
use mathlib.Core.Path.{sym, ◌∙◌}
use Rattle.definitions.proofs.Numbers.{number-empty, number-plus, number-minus, number-unsigned}
use Rattle.numbers.proofs.DigitWalk.{first-none, first-some, rest-is}
use Rattle.numbers.proofs.read_number.Goals as goal

pub returns-in_err-first : goal.returns-in_err-first
returns-in_err-first c = rw c.from_residual.ensures (sym (number-empty _ (first-none _ c.in_err-first.ensures.value)))

pub returns-in-43 : goal.returns-in-43
returns-in-43 c =
    let f = first-some _ _ c.in_ok-first.ensures.value in
    rw (number-plus _ f.0 (f.1 ∙ c.in-43.is)) (rw rest-is at c.read_signed.ensures)

pub returns-in-45 : goal.returns-in-45
returns-in-45 c =
    let f = first-some _ _ c.in_ok-first.ensures.value in
    rw (number-minus _ f.0 (f.1 ∙ c.in-45.is)) (rw rest-is at c.read_signed-in-45.ensures)

pub returns-in_default : goal.returns-in_default
returns-in_default c =
    let f = first-some _ _ c.in_ok-first.ensures.value in
    rw (number-unsigned _ f.0 (λ q. omega arith) (λ q. omega arith)) c.read_signed-in_default.ensures
