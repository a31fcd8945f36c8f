-- `evaluator::evaluate` meets its contract: its row under the words that are looked at, all of them known. Assumes
-- nothing.
use Rattle.definitions.specs.Evaluate.{evaluating}
use Rattle.assigned.specs.WordsSay.{looked}
use Rattle.evaluator.proofs.evaluate.Goals as goal

pub returns : goal.returns
unfolding evaluating looked
returns c = rw c.ones_of-ones.ensures at c.evaluate_row.ensures
