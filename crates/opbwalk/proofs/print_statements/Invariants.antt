-- Each line takes the offset forward, so that what is left of the file falls; columns and output keep their lengths.
use Rattle.std.proofs.Common.{◌≡◌, ◌-◌, length}
use Rattle.opbwalk.proofs.print_statements.Given as goal

abbrev pub invariant-loop-entry : goal.invariant-loop-entry
invariant-loop-entry g l = (length l.weights ≡ length l.initial.weights) × (length l.literals ≡ length l.initial.literals) × (length l.out ≡ length l.initial.out)

abbrev pub decreases-loop-entry : goal.decreases-loop-entry
decreases-loop-entry g l = length l.file - l.at
