-- `normal_checks::count_rows` meets its contract. The loop's invariant: the rows before this one passed, with the terms
-- that they need (`Counts`, proofs/Checks.antt). Assumes nothing.
use Rattle.std.proofs.Common.{sym, arith, rules}
use Rattle.std.proofs.lemmas.Result.{err_from_is_err_and}
use Rattle.definitions.specs.Refusal.{needed}
use Rattle.tables.specs.Lent.{table_of}
use Rattle.tables.proofs.Entries.{entry-ended}
use Rattle.normal_checks.proofs.Checks.{counts-none, counts_all, walk-refused, walk-more}
use Rattle.normal_checks.proofs.count_rows.Goals as goal

pub loop-row-init : goal.loop-row-init
loop-row-init c = counts-none _

pub returns-in_err-needed : goal.returns-in_err-needed
returns-in_err-needed c =
    let p = err_from_is_err_and c.from_residual.result c.from_residual.ensures.1 in
    rw (p.1, p.2)
    (walk-refused (table_of c.args.t) _ _ c.loop-row.invariant c.in-Some.entry (sym c.in-Some.ensures) _ c.check_row.result
    c.check_row.ensures _ c.in_err-needed.ensures.cases (λ f q. search rules))

pub loop-row-preserved : goal.loop-row-preserved
unfolding needed
loop-row-preserved c =
    rw c.saturating_add-terms.ensures
    (walk-more (table_of c.args.t) _ _ c.loop-row.invariant c.in-Some.entry (sym c.in-Some.ensures) _ c.check_row.result
    c.check_row.ensures _ c.in_ok-needed.ensures.cases (λ f q. q))

pub returns-in_default : goal.returns-in_default
returns-in_default c =
    rw c.row_room-rows.ensures
    (counts_all (table_of c.args.t) c.loop-row.row-counter _ c.loop-row.invariant
    (entry-ended (table_of c.args.t) _ (sym c.in_default.ensures)) (omega (arith, c.row_room-rows.ensures)))

pub returns-after-loop-row : goal.returns-after-loop-row
returns-after-loop-row c =
    rw c.row_room-rows.ensures
    (counts_all (table_of c.args.t) c.loop-row.row-counter _ c.loop-row.invariant
    (omega (arith, c.row_room-rows.ensures)) (omega (arith, c.row_room-rows.ensures)))
