-- `blanks::first_lf` meets its contract. The loop's invariant: `passed` bytes are passed and none is an LF; what the iterator
-- has left stands behind them, to be had in groups of 16. Assumes nothing.
use mathlib.Core.Path.{◌≡◌}
use Rattle.std.specs.Slice.Iter.{chunks_exact_rest, chunks_exact_size}
use Rattle.blanks.proofs.LfGroups.{Clear}
use Rattle.blanks.proofs.first_lf.Given as goal

abbrev pub invariant-loop-group : goal.invariant-loop-group
invariant-loop-group l = Clear l.s (chunks_exact_rest l.group-iterator) l.passed × (chunks_exact_size l.group-iterator ≡ 16)
