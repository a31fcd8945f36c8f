-- `items::seek` meets its contract. The loop's invariant: what is sought from the start on is what is sought from `at`
-- on. Assumes nothing.
use Rattle.items.proofs.Spots.{Seeking}
use Rattle.items.proofs.seek.Given as goal

abbrev pub invariant-loop-at : goal.invariant-loop-at
invariant-loop-at l = Seeking l.block l.fn.from l.fn.front l.at l.opens
