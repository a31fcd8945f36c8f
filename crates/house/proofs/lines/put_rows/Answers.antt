-- `put_rows` meets its contract: each turn puts one row behind the others (`Putting`, proofs/Rows.antt).
use native.Mathlib.Omega.{arith}
use mathlib.Core.Path.{sym}
use Rattle.tables.specs.Lent.{table_of}
use Rattle.tables.proofs.Entries.{entry-ended}
use Rattle.house.proofs.Rows.{putting-none, putting-ready, putting-more, putting-all}
use Rattle.house.proofs.lines.put_rows.Goals as goal

pub loop-row-init : goal.loop-row-init
loop-row-init c = putting-none _ _ _ _ _

pub put_row-end-requires : goal.put_row-end-requires
put_row-end-requires c =
    putting-ready _ _ c.requires c.loop-row.invariant c.loop-row-test.true _ (sym c.in-Some.ensures)

pub loop-row-preserved : goal.loop-row-preserved
loop-row-preserved c =
    putting-more _ _ c.requires c.loop-row.invariant c.loop-row-test.true _ (sym c.in-Some.ensures) c.put_row-end.ensures

pub returns-after-loop-row : goal.returns-after-loop-row
returns-after-loop-row c = putting-all _ _ c.requires c.loop-row.invariant (omega arith)

-- no row is left where there is no entry
pub returns-in_default : goal.returns-in_default
returns-in_default c =
    putting-all _ _ c.requires c.loop-row.invariant
    (omega (arith, entry-ended (table_of c.args.t) c.loop-row.row (sym c.in_default.ensures), c.requires.within))
