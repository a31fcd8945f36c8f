-- `write_entry` meets its contract: the entry is a comment or a row, since the first walk has accepted it.
use native.Mathlib.Omega.{arith}
use mathlib.Core.Path.{◌≡◌}
use borrow.Author.Rules.{rules}
use mir.Syntax.{w64}
use mir.Val.{SFits, to_z, of_z}
use mir.Facts.{to_z-of_z}
use Rattle.definitions.specs.Table.{sort_of, and_then}
use Rattle.definitions.specs.Write.{allowed, written_in}
use Rattle.std.specs.Prelude.{Option, Some, None, Result, Ok}
use Rattle.definitions.specs.declared.Fault.{Fault}
use Rattle.printed.specs.declared.kinds.Shape.{Shape}
use Rattle.printed.specs.Kinds.{sort_said}
use Rattle.printed.proofs.OneEntry.{item_for, written-by}
use Rattle.tables.specs.Lent.{table_of}
use Rattle.writer.proofs.OneEntry.{CommentReady, comment-ready, PartReady, part-ready, never-refused}
use Rattle.writer.proofs.entries.write_entry.Goals as goal
use Rattle.writer.proofs.entries.write_entry.Goals.{In-Ok-None, In-Ok-Some, Start}

module _ (c : Start) where
  written : (s : Result (Option Shape) Fault) → s ≡ sort_said (sort_of c.args.entry.kind) (to_z w64 (of_z w64 c.args.entry.bound))
      → written_in c.args.mode (table_of c.args.t) c.args.text.now c.args.entry
      ≡ and_then (item_for s (table_of c.args.t) c.args.text.now c.args.entry) (allowed c.args.mode)
  written s e =
      let b : SFits w64 c.args.entry.bound = search rules in
      written-by (table_of c.args.t) c.args.text.now c.args.entry c.args.mode s (rw (to_z-of_z b) at e)

commented : (c : In-Ok-None) → CommentReady c.args.mode (table_of c.args.t) c.args.text.now c.args.entry c.requires
commented c =
    comment-ready c.args.mode (table_of c.args.t) c.args.text.now c.args.entry c.requires
    (written (goal.at.In-Ok-None c).Start (Ok None) (rw c.in-Ok-None.field-0-is at c.in-Ok-None.ensures))

rowed : (c : In-Ok-Some) → PartReady c.args.mode (table_of c.args.t) c.args.text.now c.args.entry c.requires c.in-Ok-Some.shape
rowed c =
    part-ready c.args.mode (table_of c.args.t) c.args.text.now c.args.entry c.requires
    _ (written (goal.at.In-Ok-Some c).Start (Ok (Some c.in-Ok-Some.shape)) (rw c.in-Ok-Some.field-0-is at c.in-Ok-Some.ensures))

pub overflow_add-end : goal.overflow_add-end
overflow_add-end c = omega (arith, (commented c).inside)

pub slice_bounds-put_remark-end : goal.slice_bounds-put_remark-end
slice_bounds-put_remark-end c = (commented c).inside

pub overflow_add-end-in-Ok-Some : goal.overflow_add-end-in-Ok-Some
overflow_add-end-in-Ok-Some c = omega (arith, (rowed c).inside)

pub offset_bounds-t-first : goal.offset_bounds-t-first
offset_bounds-t-first c = omega (arith, (rowed (goal.at.offset_bounds-t-first c).In-Ok-Some).inside)

pub offset_bounds-t-first-in-Ok-Some : goal.offset_bounds-t-first-in-Ok-Some
offset_bounds-t-first-in-Ok-Some c = omega (arith, (rowed (goal.at.offset_bounds-t-first-in-Ok-Some c).In-Ok-Some).inside)

pub slice_bounds-put_row-end : goal.slice_bounds-put_row-end
slice_bounds-put_row-end c = omega (arith, (rowed (goal.at.slice_bounds-put_row-end c).In-Ok-Some).inside)

pub slice_bounds-put_row-end-in-Ok-Some : goal.slice_bounds-put_row-end-in-Ok-Some
slice_bounds-put_row-end-in-Ok-Some c = omega (arith, (rowed (goal.at.slice_bounds-put_row-end-in-Ok-Some c).In-Ok-Some).inside)

pub returns-in-Ok-None : goal.returns-in-Ok-None
returns-in-Ok-None c = (commented (goal.at.returns-in-Ok-None c).In-Ok-None).puts c.put_remark.ensures

pub returns-in-Ok-Some : goal.returns-in-Ok-Some
returns-in-Ok-Some c = (rowed (goal.at.returns-in-Ok-Some c).In-Ok-Some).puts c.put_row.ensures

pub returns-in-Err : goal.returns-in-Err
returns-in-Err c =
    never-refused c.args.mode (table_of c.args.t) c.args.text.now c.args.entry c.requires
    (written (goal.at.returns-in-Err c).Start _ c.in-Err.ensures)
