-- `normaliser::fill::fill_row` meets its contract: a comment as it is, or the row's terms, whose parts are handed on,
-- and its bound moved (proofs/Fills.antt). Assumes nothing.
use mathlib.Core.Path.{◌≡◌}
use Prim.Native.Nat.{◌+◌, ◌-◌}
use native.Mathlib.Omega.{arith}
use borrow.Author.Rules.{rules}
use mir.Syntax.{w64}
use mir.Val.{SFits}
use mir.Facts.{to_z-of_z}
use Rattle.normaliser.proofs.Fills.{row_within, row-ready, bound-moved, filled-comment, filled_row}
use Rattle.normaliser.proofs.fill.fill_row.Goals as goal

pub returns-then-entry-eq-COMMENT : goal.returns-then-entry-eq-COMMENT
returns-then-entry-eq-COMMENT c =
    let a = c.args in
    let b : SFits w64 a.entry.bound = search rules in
    rw (to_z-of_z b)
    (filled-comment a.t.weights.now a.t.literals.now a.entry a.outweights.now a.outliterals.now a.term c.if-entry-eq-COMMENT.true)

pub overflow_add-end : goal.overflow_add-end
overflow_add-end c =
    omega (arith, row_within c.args.t.weights.now c.args.t.literals.now c.args.entry _ _ c.if-entry-eq-COMMENT.false c.requires, c.ranges.t)

pub offset_bounds-t-entry : goal.offset_bounds-t-entry
offset_bounds-t-entry c =
    omega (arith, row_within c.args.t.weights.now c.args.t.literals.now c.args.entry _ _ c.if-entry-eq-COMMENT.false c.requires, c.ranges.t)

pub slice_bounds-weights-end : goal.slice_bounds-weights-end
slice_bounds-weights-end c =
    omega (arith, row_within c.args.t.weights.now c.args.t.literals.now c.args.entry _ _ c.if-entry-eq-COMMENT.false c.requires)

pub offset_bounds-t-entry-2 : goal.offset_bounds-t-entry-2
offset_bounds-t-entry-2 c =
    omega (arith, row_within c.args.t.weights.now c.args.t.literals.now c.args.entry _ _ c.if-entry-eq-COMMENT.false c.requires, c.ranges.t)

pub slice_bounds-fill_terms-end : goal.slice_bounds-fill_terms-end
slice_bounds-fill_terms-end c =
    omega (arith, row_within c.args.t.weights.now c.args.t.literals.now c.args.entry _ _ c.if-entry-eq-COMMENT.false c.requires)

pub fill_terms-requires : goal.fill_terms-requires
fill_terms-requires c =
    let a = c.args in
    let n : a.entry.first + a.entry.count - a.entry.first ≡ a.entry.count = omega arith in
    rw n (row-ready a.t.weights.now a.t.literals.now a.entry _ _ c.if-entry-eq-COMMENT.false c.requires)

pub overflow_add-result : goal.overflow_add-result
overflow_add-result c =
    let a = c.args in
    let n : a.entry.first + a.entry.count - a.entry.first ≡ a.entry.count = omega arith in
    let b : SFits w64 a.entry.bound = search rules in
    let f : SFits w64 c.shift_of-shift.result = record { sfits = c.shift_of-shift.type_inv } in
    let m =
    bound-moved a.t.weights.now a.t.literals.now a.entry _ _ c.if-entry-eq-COMMENT.false c.requires _ _ c.read_kind.ensures
    (rw n at c.shift_of-shift.ensures) in
    rw (to_z-of_z b, to_z-of_z f) m.1

pub returns : goal.returns
returns c =
    let a = c.args in
    let n : a.entry.first + a.entry.count - a.entry.first ≡ a.entry.count = omega arith in
    let b : SFits w64 a.entry.bound = search rules in
    let f : SFits w64 c.shift_of-shift.result = record { sfits = c.shift_of-shift.type_inv } in
    let m =
    bound-moved a.t.weights.now a.t.literals.now a.entry _ _ c.if-entry-eq-COMMENT.false c.requires _ _ c.read_kind.ensures
    (rw n at c.shift_of-shift.ensures) in
    rw (to_z-of_z b, to_z-of_z f, to_z-of_z m.1, m.0)
    (filled_row a.t.weights.now a.t.literals.now a.entry a.outweights.now a.outliterals.now a.term c.if-entry-eq-COMMENT.false _ _
    (rw n at c.fill_terms.ensures))
