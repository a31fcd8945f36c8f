-- `normaliser::normalise` meets its contract: the refusal that was measured, or all filled (proofs/AnswersTell.antt).
-- Assumes nothing.
use Rattle.std.proofs.lemmas.Result.{err_from_is_err_and}
use mathlib.Core.Path.{sym, ap, ◌∙◌}
use Rattle.definitions.specs.Answers.{said_counted}
use Rattle.normaliser.proofs.AnswersTell.{normal-refused, ready, normal-filled}
use Rattle.normaliser.proofs.normalise.Goals as goal

pub returns-in_err-totals : goal.returns-in_err-totals
returns-in_err-totals c =
    let p = err_from_is_err_and c.from_residual.result c.from_residual.ensures.1 in
    rw (p.1, p.2) (normal-refused _ _ _ (sym (ap said_counted c.in_err-totals.was) ∙ c.measure_normal.ensures))

pub fill_rows-requires : goal.fill_rows-requires
fill_rows-requires c = ready _ _ _ (sym (ap said_counted c.in_ok-totals.was) ∙ c.measure_normal.ensures)

pub returns : goal.returns
returns c =
    normal-filled _ _ _ (sym (ap said_counted c.in_ok-totals.was) ∙ c.measure_normal.ensures) _ c.fill_rows.ensures
