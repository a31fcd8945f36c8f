-- `walk_plain` meets its contract: the loop stands behind a run of plain terms (`Ran`, specs/Run.antt), with the rest
-- of the text from there on; how much was passed is told by what is left. The measure is what is left of the text.
use mathlib.Core.Path.{◌≡◌}
use lib.ListN.{length, drop}
use Rattle.sums.specs.Run.{Ran}
use Rattle.sums.proofs.Runs.{passed}
use Rattle.sums.proofs.run.walk_plain.Given as goal

abbrev pub invariant-loop-term : goal.invariant-loop-term
invariant-loop-term l =
    (l.rest ≡ drop (passed l.s l.rest) l.s) × Ran l.options l.s l.from l.before l.initial.weights l.initial.literals (passed l.s l.rest) l.terms l.size l.weights l.literals

abbrev pub decreases-loop-term : goal.decreases-loop-term
decreases-loop-term l = length l.rest
