-- `read_values` meets its contract: an empty block is 20; else one function for each form. Assumes nothing.
use mathlib.Core.Path.{sym, ◌∙◌}
use native.Mathlib.Omega.{arith}
use borrow.Author.Tests.{eqb-true, eqb-false}
use Rattle.values.proofs.Reading.{read-empty}
use Rattle.values.proofs.read_values.Goals as goal

pub returns-then-is_empty : goal.returns-then-is_empty
returns-then-is_empty c = read-empty _ _ _ _ (eqb-true _ 0 (sym c.is_empty.ensures ∙ c.if-is_empty.true))

pub read_string-requires : goal.read_string-requires
read_string-requires c =
    record { some = omega (arith, eqb-false _ 0 (sym c.is_empty.ensures ∙ c.if-is_empty.false)); form = sym c.form_of.ensures ∙ c.in-ZerosAndOnes.is }

pub read_literals-requires : goal.read_literals-requires
read_literals-requires c =
    record { some = omega (arith, eqb-false _ 0 (sym c.is_empty.ensures ∙ c.if-is_empty.false)); form = sym c.form_of.ensures ∙ c.in-SignedNumbers.is }

pub read_literals-requires-in-XTokens : goal.read_literals-requires-in-XTokens
read_literals-requires-in-XTokens c =
    record { some = omega (arith, eqb-false _ 0 (sym c.is_empty.ensures ∙ c.if-is_empty.false)); form = sym c.form_of.ensures ∙ c.in-XTokens.is }
