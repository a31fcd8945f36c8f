-- `normaliser::fill::fill_rows` meets its contract. The loop's invariant: the rows before i are filled, with their
-- terms (`Filling`, proofs/Fills.antt). Assumes nothing.
use mathlib.Core.Path.{sym}
use native.Mathlib.Omega.{arith}
use borrow.Author.Rules.{rules}
use mir.Syntax.{w64}
use mir.Val.{SFits}
use mir.Facts.{to_z-of_z}
use Rattle.tables.specs.Lent.{table_of}
use Rattle.tables.proofs.Entries.{entry-ended}
use Rattle.normaliser.proofs.Fills.{filling-none, filling-all, line-accepted, filling-fit, filling-ready, filling-more}
use Rattle.normaliser.proofs.fill.fill_rows.Goals as goal

pub loop-i-init : goal.loop-i-init
loop-i-init c = filling-none _ _

pub offset_bounds-outweights-term : goal.offset_bounds-outweights-term
offset_bounds-outweights-term c = omega (arith, (filling-fit _ _ c.requires _ _ _ c.loop-i.invariant _ (sym c.in-Some.ensures)).terms, c.well_formed)

pub slice_bounds-fill_row-count : goal.slice_bounds-fill_row-count
slice_bounds-fill_row-count c = omega (arith, (filling-fit _ _ c.requires _ _ _ c.loop-i.invariant _ (sym c.in-Some.ensures)).terms)

pub slice_bounds-fill_row-start : goal.slice_bounds-fill_row-start
slice_bounds-fill_row-start c = omega (arith, (filling-fit _ _ c.requires _ _ _ c.loop-i.invariant _ (sym c.in-Some.ensures)).terms)

pub offset_bounds-outliterals-term : goal.offset_bounds-outliterals-term
offset_bounds-outliterals-term c = omega (arith, (filling-fit _ _ c.requires _ _ _ c.loop-i.invariant _ (sym c.in-Some.ensures)).terms, c.well_formed)

pub slice_bounds-fill_row-count-in-loop-i : goal.slice_bounds-fill_row-count-in-loop-i
slice_bounds-fill_row-count-in-loop-i c = omega (arith, (filling-fit _ _ c.requires _ _ _ c.loop-i.invariant _ (sym c.in-Some.ensures)).terms)

pub slice_bounds-fill_row-start-in-loop-i : goal.slice_bounds-fill_row-start-in-loop-i
slice_bounds-fill_row-start-in-loop-i c = omega (arith, (filling-fit _ _ c.requires _ _ _ c.loop-i.invariant _ (sym c.in-Some.ensures)).terms)

pub fill_row-row-requires : goal.fill_row-row-requires
fill_row-row-requires c = filling-ready _ _ c.requires _ _ _ c.loop-i.invariant _ (sym c.in-Some.ensures)

pub bounds-outkinds-i : goal.bounds-outkinds-i
bounds-outkinds-i c = omega (arith, (filling-fit _ _ c.requires _ _ _ c.loop-i.invariant _ (sym c.in-Some.ensures)).rows)

pub bounds-outfirsts-i : goal.bounds-outfirsts-i
bounds-outfirsts-i c = omega (arith, (filling-fit _ _ c.requires _ _ _ c.loop-i.invariant _ (sym c.in-Some.ensures)).rows)

pub bounds-outcounts-i : goal.bounds-outcounts-i
bounds-outcounts-i c = omega (arith, (filling-fit _ _ c.requires _ _ _ c.loop-i.invariant _ (sym c.in-Some.ensures)).rows)

pub bounds-outbounds-i : goal.bounds-outbounds-i
bounds-outbounds-i c = omega (arith, (filling-fit _ _ c.requires _ _ _ c.loop-i.invariant _ (sym c.in-Some.ensures)).rows)

pub overflow_add-term : goal.overflow_add-term
overflow_add-term c =
    let w = c.fill_row-row.ensures _ (line-accepted _ _ c.requires _ _ _ c.loop-i.invariant _ (sym c.in-Some.ensures)) in
    omega (arith, w.terms, (filling-fit _ _ c.requires _ _ _ c.loop-i.invariant _ (sym c.in-Some.ensures)).terms, c.well_formed)

pub loop-i-preserved : goal.loop-i-preserved
loop-i-preserved c =
    let g : SFits w64 c.fill_row-row.result.bound = search rules in
    rw (to_z-of_z g)
    (filling-more _ _ c.requires _ _ _ c.loop-i.invariant _ (sym c.in-Some.ensures) c.fill_row-row.result _ _
    (c.fill_row-row.ensures _ (line-accepted _ _ c.requires _ _ _ c.loop-i.invariant _ (sym c.in-Some.ensures))))

pub returns-after-loop-i : goal.returns-after-loop-i
returns-after-loop-i c =
    filling-all _ _ c.requires _ _ _ c.loop-i.invariant (omega (arith, c.loop-i-test.false, c.row_room-i-end.ensures))

pub returns-in_default : goal.returns-in_default
returns-in_default c = filling-all _ _ c.requires _ _ _ c.loop-i.invariant (entry-ended (table_of c.args.t) _ (sym c.in_default.ensures))
