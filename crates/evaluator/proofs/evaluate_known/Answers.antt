-- `evaluator::evaluate_known` meets its contract: its row under the words of both rows that are looked at. Assumes
-- nothing.
use Rattle.definitions.specs.Evaluate.{evaluating_known}
use Rattle.assigned.specs.WordsSay.{looked}
use Rattle.evaluator.proofs.evaluate_known.Goals as goal

pub returns : goal.returns
unfolding evaluating_known looked
returns c = rw c.ones_of-ones.ensures at c.evaluate_row.ensures
