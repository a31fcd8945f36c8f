-- `put_head` meets its contract: `min:`, or nothing.
use Rattle.puts.proofs.SeveralLaws.{each_none, each-one}
use Rattle.lines.proofs.put_head.Goals as goal

pub returns-then-goal : goal.returns-then-goal
returns-then-goal c = rw c.if-goal.true (each-one c.put_text.ensures)

pub returns : goal.returns
returns c = rw c.if-goal.false (each_none _ _)
