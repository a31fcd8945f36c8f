-- `measure_rows` meets its contract: each turn counts one row (`Measures`, proofs/RowsWalk.antt).
use native.Mathlib.Omega.{arith}
use mathlib.Core.Path.{sym, ap, ◌∙◌}
use Prim.Native.Nat.{min}
use Rattle.tables.specs.Lent.{table_of}
use Rattle.tables.proofs.Entries.{entry-ended}
use Rattle.house_measures.proofs.RowsWalk.{measures-none, measures-refused, measures-more, measures-all}
use Rattle.house_measures.proofs.rows.measure_rows.Goals as goal

pub loop-row-init : goal.loop-row-init
loop-row-init c = measures-none _ _ _

pub returns-in-Err : goal.returns-in-Err
returns-in-Err c =
    let l = c.loop-row in
    measures-refused _ _ _ l.row l.all l.invariant (omega arith) _ (sym c.in-Some.ensures) _ c.in-Err.ensures

pub loop-row-preserved : goal.loop-row-preserved
loop-row-preserved c =
    let l = c.loop-row in
    measures-more _ _ _ l.row l.all l.invariant (omega arith) _ (sym c.in-Some.ensures) _ _ _ c.in-Ok.ensures
    c.add_needed.ensures c.add_needed-in-Ok.ensures

pub returns-after-loop-row : goal.returns-after-loop-row
returns-after-loop-row c =
    let l = c.loop-row in
    measures-all _ _ _ l.row l.all l.invariant c.min-n.result (c.min-n.ensures ∙ ap (min c.args.rows) c.row_room.ensures)
    (omega arith) (omega arith)

-- no row is left where there is no entry
pub returns-in_default : goal.returns-in_default
returns-in_default c =
    let l = c.loop-row in
    measures-all _ _ _ l.row l.all l.invariant c.min-n.result (c.min-n.ensures ∙ ap (min c.args.rows) c.row_room.ensures)
    (omega arith) (omega (arith, entry-ended (table_of c.args.t) l.row (sym c.in_default.ensures), c.min-n.ensures, c.row_room.ensures))
