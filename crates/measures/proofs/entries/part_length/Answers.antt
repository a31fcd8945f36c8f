-- `part_length` meets its contract: 11 of terms outside their columns, else what the row says.
use mathlib.Core.Path.{◌≡◌, sym, ap, ◌∙◌}
use Prim.Native.Nat.{◌+◌, ◌≤◌}
use borrow.Author.Tests.{leb-true}
use lib.Dec.{leb}
use Rattle.definitions.specs.Table.{term_room}
use Rattle.tables.specs.Lent.{table_of}
use Rattle.measures.proofs.OneEntry.{part-outside, part-inside}
use Rattle.measures.proofs.entries.part_length.Goals as goal
use Rattle.measures.proofs.entries.part_length.Goals.{After-in_column, Else-not-in_column}

asked : (c : After-in_column) → c.in_column.result ≡ leb (c.args.entry.first + c.args.entry.count) (term_room (table_of c.args.t))
asked c = c.in_column.ensures ∙ ap (leb (c.args.entry.first + c.args.entry.count)) c.term_room.ensures

within : (c : Else-not-in_column) → c.args.entry.first + c.args.entry.count ≤ term_room (table_of c.args.t)
within c = leb-true _ _ (sym (asked (goal.at.Else-not-in_column c).After-in_column) ∙ c.if-not-in_column.false)

pub returns-then-not-in_column : goal.returns-then-not-in_column
returns-then-not-in_column c =
    part-outside c.args.shape c.args.entry (table_of c.args.t) c.args.mode
    (sym (asked (goal.at.returns-then-not-in_column c).After-in_column) ∙ c.if-not-in_column.true)

pub returns : goal.returns
returns c =
    c.row_length.ensures
    ∙ part-inside c.args.shape c.args.entry (table_of c.args.t) c.args.mode
    (sym (asked (goal.at.returns c).After-in_column) ∙ c.if-not-in_column.false)
