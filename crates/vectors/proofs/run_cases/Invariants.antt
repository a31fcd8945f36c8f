-- `run_cases` is safe and ends: there are no more lines than bytes, and each line has one at least.
use Rattle.std.proofs.Common.{length, ◌+◌, ◌≤◌}
use Rattle.vectors.proofs.run_cases.Given as goal

abbrev pub invariant-loop-rest : goal.invariant-loop-rest
invariant-loop-rest g l = l.number + length l.rest ≤ length l.s

abbrev pub decreases-loop-rest : goal.decreases-loop-rest
decreases-loop-rest g l = length l.rest
