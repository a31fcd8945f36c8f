-- `summed::sum_of` meets its contract. The loop's invariant: the sum of the terms passed. Each sum is in 64 signed bits
-- since the absolute weights together are at most M (`sum-to-in`, proofs/SumLaws.antt). Assumes nothing.
use Rattle.std.proofs.Common.{◌≡◌, length}
use Rattle.definitions.specs.Meaning.{assigned}
use Rattle.summed.proofs.SumLaws.{sum_to}
use Rattle.summed.proofs.sum_of.Given as goal

abbrev pub invariant-loop-weight : goal.invariant-loop-weight
invariant-loop-weight l = l.sum ≡ sum_to (assigned l.words) l.weights l.literals (length l.yielded)
