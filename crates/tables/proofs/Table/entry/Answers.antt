-- `Table::entry` meets its contract.
use native.Mathlib.Omega.{arith}
use mathlib.Core.Path.{sym}
use lib.ListN.{get_or}
use lib.IntN.{pos}
use mir.Syntax.{w64}
use mir.Val.{SFits}
use mir.Facts.{to_z-of_z}
use borrow.Author.Rules.{rules, sfits_of}
use Rattle.tables.specs.Lent.{table_of}
use Rattle.tables.proofs.Entries.{entry-found, entry-none}
use Rattle.tables.proofs.Table.entry.Goals as goal

pub returns-then-row-row_room : goal.returns-then-row-row_room
returns-then-row-row_room c = sym (entry-none (table_of c.args.self) _ (omega (arith, c.if-row-row_room.true, c.row_room.ensures)))

pub returns : goal.returns
returns c =
    let b : SFits w64 (get_or c.args.self.bounds.now c.args.row (pos 0)) = sfits_of (search rules) in
    rw (to_z-of_z b) (sym (entry-found (table_of c.args.self) _ (omega (arith, c.if-row-row_room.false, c.row_room.ensures))))
