-- `word::are_digits` meets its contract: digits have no highest bit, and without one the sums tell them.
use Rattle.plain_parts.proofs.DigitLanes.{untested, sums-fit, tested}
use Rattle.plain_parts.proofs.word.are_digits.Goals as goal

pub returns-then-y-ne0 : goal.returns-then-y-ne0
returns-then-y-ne0 c = untested c.args.y c.if-y-ne0.true

pub overflow_add-result : goal.overflow_add-result
overflow_add-result c = record { fits = sums-fit c.args.y c.ranges.y.fits c.if-y-ne0.false }

pub returns : goal.returns
returns c = tested c.args.y c.if-y-ne0.false
