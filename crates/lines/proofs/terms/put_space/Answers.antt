-- `put_space` meets its contract: a space, or nothing.
use Rattle.puts.proofs.SeveralLaws.{each_none, each-one}
use Rattle.lines.proofs.terms.put_space.Goals as goal

pub returns-then-wanted : goal.returns-then-wanted
returns-then-wanted c = rw c.if-wanted.true (each-one c.put_text.ensures)

pub returns : goal.returns
returns c = rw c.if-wanted.false (each_none _ _)
