-- `read_literal` meets its contract: a `~` or `-` is one byte and negates the variable behind it, else the variable
-- stands at the front (proofs/Literals.antt).
use native.Mathlib.Omega.{arith}
use mathlib.Core.Path.{◌≡◌, sym, ap, ◌∙◌}
use mathlib.Core.Bool.{true}
use borrow.Author.Tests.{ltb-true, ltb-false}
use lib.ListN.{get_or, drop, length-drop}
use Rattle.std.proofs.Common.{rules}
use Rattle.std.proofs.lemmas.Result.{err_from_is_err_and}
use Rattle.definitions.specs.Bytes.{tilde}
use Rattle.definitions.specs.Reader.{more}
use Rattle.definitions.specs.Text.{variable, literal}
use Rattle.definitions.proofs.Parts.{part-is}
use Rattle.literal_read.specs.Said.{said_literal}
use Rattle.literal_read.proofs.Literals.{literal-short, literal-plain, literal-negated, negated-within}
use Rattle.literal_read.proofs.read_literal.Goals as goal
use Rattle.literal_read.proofs.read_literal.Goals.{After-read_variable-2, in_default-via-then-s-lt1, in_default-via-else-s-lt1+in_default-1}

-- what stands behind the negation, and what is then the answer
module _ (c : After-read_variable-2) where
  behind : said_literal c.read_variable-2.result ≡ variable c.args.options true (drop 1 c.args.s.now)
  behind = c.read_variable-2.ensures ∙ ap (variable c.args.options true) (part-is c.args.s.now 1)

  answer : more 1 (said_literal c.read_variable-2.result) ≡ literal c.args.options c.args.s.now
  answer = ap (more 1) behind ∙ literal-negated _ _ (omega arith) (λ (n : get_or c.args.s.now 0 0 ≡ tilde → ⊥). omega (arith, n))

pub returns-in_default : goal.returns-in_default
returns-in_default c =
    elim c.in_default.branch [
      | in_default-via-then-s-lt1 w ↦ c.read_variable.ensures ∙ literal-short c.args.options c.args.s.now (omega (arith, ltb-true))
      | in_default-via-else-s-lt1+in_default-1 w ↦ c.read_variable.ensures ∙ literal-plain _ _ (omega (arith, ltb-false)) (search rules) (search rules)
    ]

pub returns-in_err-literal : goal.returns-in_err-literal
returns-in_err-literal c =
    let p = err_from_is_err_and c.from_residual.result c.from_residual.ensures.1 in
    rw (p.1, p.2) (sym (ap (λ r. more 1 (said_literal r)) c.in_err-literal.was) ∙ answer (goal.at.returns-in_err-literal c).After-read_variable-2)

pub overflow_add-result : goal.overflow_add-result
overflow_add-result c =
    let s = c.args.s.now in
    omega (
      arith,
      negated-within _ (drop 1 s) _ _ (sym (behind (goal.at.overflow_add-result c).After-read_variable-2) ∙ ap said_literal c.in_ok-literal.was),
      length-drop 1 s,
    )

pub returns : goal.returns
returns c = sym (ap (λ r. more 1 (said_literal r)) c.in_ok-literal.was) ∙ answer (goal.at.returns c).After-read_variable-2
