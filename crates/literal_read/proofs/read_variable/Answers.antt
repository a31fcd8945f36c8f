-- `read_variable` meets its contract: an `x` is one byte, and the digits behind it are read on the rest
-- (proofs/Literals.antt).
use native.Mathlib.Omega.{arith}
use mathlib.Core.Path.{◌≡◌, sym, ap, ◌∙◌}
use lib.ListN.{get_or, drop, length-drop}
use Rattle.std.proofs.lemmas.Result.{err_from_is_err_and}
use Rattle.definitions.specs.Bytes.{letter_x}
use Rattle.definitions.specs.Reader.{more}
use Rattle.definitions.specs.Text.{digits, variable}
use Rattle.definitions.proofs.Parts.{part-is}
use Rattle.literal_read.specs.Said.{said_literal}
use Rattle.literal_read.proofs.Literals.{variable-empty, variable-other, variable-x, digits-within}
use Rattle.literal_read.proofs.read_variable.Goals as goal
use Rattle.literal_read.proofs.read_variable.Goals.{After-read_digits}

-- what stands behind the `x`, and what is then the answer
module _ (c : After-read_digits) where
  behind : said_literal c.read_digits.result ≡ digits c.args.options c.args.negated (drop 1 c.args.s.now)
  behind = c.read_digits.ensures ∙ ap (digits c.args.options c.args.negated) (part-is c.args.s.now 1)

  answer : more 1 (said_literal c.read_digits.result) ≡ variable c.args.options c.args.negated c.args.s.now
  answer =
      let x : get_or c.args.s.now 0 0 ≡ letter_x = omega arith in
      ap (more 1) behind ∙ variable-x _ _ _ (omega arith) x

pub returns-in_default : goal.returns-in_default
returns-in_default c = variable-empty _ _ _ (omega arith)

pub returns-in_default-2 : goal.returns-in_default-2
returns-in_default-2 c = variable-other _ _ _ (omega arith) (omega arith)

pub returns-in_err-literal : goal.returns-in_err-literal
returns-in_err-literal c =
    let p = err_from_is_err_and c.from_residual.result c.from_residual.ensures.1 in
    rw (p.1, p.2) (sym (ap (λ r. more 1 (said_literal r)) c.in_err-literal.was) ∙ answer (goal.at.returns-in_err-literal c).After-read_digits)

pub overflow_add-result : goal.overflow_add-result
overflow_add-result c =
    let s = c.args.s.now in
    omega (
      arith,
      digits-within _ _ (drop 1 s) _ _ (sym (behind (goal.at.overflow_add-result c).After-read_digits) ∙ ap said_literal c.in_ok-literal.was),
      length-drop 1 s,
    )

pub returns : goal.returns
returns c = sym (ap (λ r. more 1 (said_literal r)) c.in_ok-literal.was) ∙ answer (goal.at.returns c).After-read_digits
