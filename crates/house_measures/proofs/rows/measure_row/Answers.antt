-- `measure_row` meets its contract: a comment, a kind that is not read, terms outside their columns, or a row of a
-- kind.
use mathlib.Core.Path.{sym, ap, ◌∙◌}
use Prim.Native.Nat.{◌+◌}
use lib.Dec.{leb}
use mir.Syntax.{w64}
use mir.Val.{SFits}
use mir.Facts.{to_z-of_z}
use Rattle.std.proofs.Common.{rules}
use Rattle.house_measures.specs.Sizes.{size_in}
use Rattle.house_measures.proofs.Entries.{comment-sized, unread-entry, outside-entry}
use Rattle.house_measures.proofs.rows.measure_row.Goals as goal

pub returns-then-entry-eq-COMMENT : goal.returns-then-entry-eq-COMMENT
returns-then-entry-eq-COMMENT c =
    let b : SFits w64 c.args.entry.bound = search rules in
    comment-sized _ _ _ _ _ c.if-entry-eq-COMMENT.true (rw (to_z-of_z b) at c.line_length.ensures)

pub returns-then-entry-gt-OBJECTIVE : goal.returns-then-entry-gt-OBJECTIVE
returns-then-entry-gt-OBJECTIVE c = ap (size_in _) (sym (unread-entry _ _ _ _ c.if-entry-gt-OBJECTIVE.true))

pub returns-then-not-in_column : goal.returns-then-not-in_column
returns-then-not-in_column c =
    let e = c.in_column.ensures ∙ ap (leb (c.args.entry.first + c.args.entry.count)) c.term_room.ensures in
    ap (size_in _)
    (sym (outside-entry _ _ _ _ c.if-entry-eq-COMMENT.false c.if-entry-gt-OBJECTIVE.false (sym e ∙ c.if-not-in_column.true)))
