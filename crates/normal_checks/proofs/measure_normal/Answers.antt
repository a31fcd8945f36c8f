-- `normal_checks::measure_normal` meets its contract: the refusal of the walk, or 9, 10 or the totals by the room that
-- was measured (proofs/MeasuredAnswers.antt). Assumes nothing.
use Rattle.std.proofs.lemmas.Result.{err_from_is_err_and}
use mathlib.Core.Path.{sym, ap, ap₂, ◌∙◌}
use Prim.Native.Nat.{ℕ}
use native.Mathlib.Omega.{arith}
use Rattle.definitions.specs.Answers.{said_counted}
use Rattle.tables.specs.Lent.{table_of}
use Rattle.normal_checks.specs.FirstWalk.{totals_within}
use Rattle.normal_checks.proofs.MeasuredAnswers.{measured-refused, measured-within}
use Rattle.normal_checks.proofs.measure_normal.Goals as goal

pub returns-in_err-totals : goal.returns-in_err-totals
returns-in_err-totals c =
    let p = err_from_is_err_and c.from_residual.result c.from_residual.ensures.1 in
    rw (p.1, p.2)
    (measured-refused (table_of c.args.t) (table_of c.args.out) _ (sym (ap said_counted c.in_err-totals.was) ∙ c.count_rows.ensures))

pub returns : goal.returns
returns c =
    c.within.ensures
    ∙ ap₂ (λ (n m : ℕ). totals_within n m c.in_ok-totals.totals) c.row_room.ensures c.term_room.ensures
    ∙ measured-within (table_of c.args.t) (table_of c.args.out) (omega (arith, c.well_formed)) c.in_ok-totals.totals (omega arith)
    (sym (ap said_counted c.in_ok-totals.was) ∙ c.count_rows.ensures)
