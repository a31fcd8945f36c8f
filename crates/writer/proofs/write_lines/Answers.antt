-- `write_lines` meets its contract: each turn writes one row (`Lining`, proofs/Lining.antt).
use native.Mathlib.Omega.{arith}
use mathlib.Core.Path.{sym, ◌∙◌}
use borrow.Author.Rules.{rules}
use Rattle.tables.specs.Lent.{table_of}
use Rattle.tables.proofs.Entries.{entry-ended}
use Rattle.writer.proofs.Lining.{lining-none, lining-ready, lining-more, lining-all}
use Rattle.writer.proofs.write_lines.Goals as goal

pub loop-row-init : goal.loop-row-init
loop-row-init c = lining-none c.requires

pub write_entry-at-requires : goal.write_entry-at-requires
write_entry-at-requires c = lining-ready c.requires c.loop-row.invariant (sym c.entry.ensures ∙ c.in-Some.is)

pub loop-row-preserved : goal.loop-row-preserved
loop-row-preserved c =
    lining-more c.requires c.loop-row.invariant (sym c.entry.ensures ∙ c.in-Some.is) c.write_entry-at.ensures

pub returns-in_default : goal.returns-in_default
returns-in_default c = lining-all c.requires c.loop-row.invariant (entry-ended (table_of c.args.t) _ (search rules))

pub returns-after-loop-row : goal.returns-after-loop-row
returns-after-loop-row c = lining-all c.requires c.loop-row.invariant (omega (arith, c.loop-row-test.false, c.row_room-row-end.ensures))
