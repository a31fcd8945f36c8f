-- `literals::Lit::of_digits` meets its contract: a file number, then its index, then a code of it (proofs/Conversions.antt).
use mathlib.Core.Path.{◌≡◌, sym, ap, ◌∙◌}
use Rattle.definitions.specs.Literal.{index}
use Rattle.literals.specs.FileDigits.{then_code}
use Rattle.literals.specs.Said.{said_file_number, said_var}
use Rattle.literals.proofs.Conversions.{index-of-digits, index-of-digits-refused, literal-of-index}
use Rattle.literals.proofs.Lit.of_digits.Goals as goal
use Rattle.literals.proofs.Lit.of_digits.Goals.{After-of_file}

-- `of_digits`, then `of_file`
var-read : (c : After-of_file) → said_var c.of_file.result ≡ index c.args.first c.args.size
var-read c = c.of_file.ensures ∙ index-of-digits _ _ _ (sym (ap said_file_number c.in_ok-number.was) ∙ c.of_digits.ensures)

pub returns-in_err-number : goal.returns-in_err-number
returns-in_err-number c =
    rw c.from_residual.ensures (ap (then_code c.args.negated)
    (index-of-digits-refused _ _ (sym (ap said_file_number c.in_err-number.was) ∙ c.of_digits.ensures)))

pub returns-in_err-variable : goal.returns-in_err-variable
returns-in_err-variable c =
    rw c.from_residual-in_err-variable.ensures (ap (then_code c.args.negated)
    (sym (ap said_var c.in_err-variable.was) ∙ var-read (goal.at.returns-in_err-variable c).After-of_file))

pub returns : goal.returns
returns c =
    let e = sym (ap said_var c.in_ok-variable.was) ∙ var-read (goal.at.returns c).After-of_file in
    c.lit.ensures ∙ sym (literal-of-index _ _ _ (sym (ap said_var c.in_ok-variable.was) ∙ c.of_file.ensures) c.args.negated) ∙ ap (then_code c.args.negated) e
