-- `normal_checks::within` meets its contract: 9, then 10, or all that was counted. Assumes nothing.
use mathlib.Core.Path.{ap, ◌∙◌}
use native.Mathlib.Omega.{arith}
use Rattle.definitions.specs.Answers.{said_counted}
use Rattle.normal_checks.proofs.MeasuredAnswers.{within-rows, within-terms, within_all}
use Rattle.normal_checks.proofs.within.Goals as goal

pub returns-then-rows-totals : goal.returns-then-rows-totals
returns-then-rows-totals c =
    let a = c.args in
    ap said_counted c.refused.ensures ∙ within-rows a.rows a.terms a.totals (omega (arith, c.if-rows-totals.true))

pub returns-then-terms-totals : goal.returns-then-terms-totals
returns-then-terms-totals c =
    let a = c.args in
    ap said_counted c.refused-then-terms-totals.ensures
    ∙ within-terms a.rows a.terms a.totals (omega (arith, c.if-rows-totals.false)) (omega (arith, c.if-terms-totals.true))

pub returns : goal.returns
returns c =
    let a = c.args in
    within_all a.rows a.terms a.totals (omega (arith, c.if-rows-totals.false)) (omega (arith, c.if-terms-totals.false))
