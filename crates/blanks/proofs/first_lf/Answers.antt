-- `blanks::first_lf` meets its contract. The loop's invariant: `passed` bytes are passed and none is an LF; what the iterator
-- has left stands behind them, to be had in groups of 16. Assumes nothing.
use mathlib.Core.Path.{ap, ◌∙◌}
use native.Mathlib.Omega.{arith}
use Rattle.std.specs.Slice.Iter.{chunks_exact_rest, chunks_exact_size}
use Rattle.blanks.proofs.LfGroups.{clear-start, clear-within, found-in, clear-more, first-behind}
use Rattle.blanks.proofs.first_lf.Goals as goal

pub loop-group-init : goal.loop-group-init
loop-group-init c =
    let e = c.into_iter-group-iterator.ensures.into_iter_gives in (
      clear-start _ _ (ap chunks_exact_rest e ∙ c.chunks_exact-group-items.ensures.rest),
      ap chunks_exact_size e ∙ c.chunks_exact-group-items.ensures.size,
    )

pub overflow_add-result : goal.overflow_add-result
overflow_add-result c =
    let at = c.in-Some.ensures.steps in
    omega (arith, clear-within _ _ _ _ _ _ c.loop-group.invariant.0 at.1.0 (at.1.1 ∙ c.loop-group.invariant.1))

pub returns-then-n-lt-GROUP : goal.returns-then-n-lt-GROUP
returns-then-n-lt-GROUP c =
    let at = c.in-Some.ensures.steps in
    found-in _ _ _ _ _ _ c.loop-group.invariant.0 at.1.0 (at.1.1 ∙ c.loop-group.invariant.1) _ c.if-n-lt-GROUP.true c.lf_in_group-n.ensures

pub overflow_add-passed : goal.overflow_add-passed
overflow_add-passed c =
    let at = c.in-Some.ensures.steps in
    omega (arith, clear-within _ _ _ _ _ _ c.loop-group.invariant.0 at.1.0 (at.1.1 ∙ c.loop-group.invariant.1))

pub loop-group-preserved : goal.loop-group-preserved
loop-group-preserved c =
    let at = c.in-Some.ensures.steps in (
      clear-more _ _ _ _ _ _ c.loop-group.invariant.0 at.1.0 (at.1.1 ∙ c.loop-group.invariant.1) _ c.if-n-lt-GROUP.false c.lf_in_group-n.ensures,
      at.0 ∙ c.loop-group.invariant.1,
    )

pub slice_bounds-lf_by_bytes-count : goal.slice_bounds-lf_by_bytes-count
slice_bounds-lf_by_bytes-count c = c.loop-group.invariant.0.within

pub slice_bounds-lf_by_bytes-start : goal.slice_bounds-lf_by_bytes-start
slice_bounds-lf_by_bytes-start c = c.loop-group.invariant.0.within

pub returns : goal.returns
returns c = first-behind _ _ _ c.loop-group.invariant.0.within c.loop-group.invariant.0.none c.lf_by_bytes.ensures
