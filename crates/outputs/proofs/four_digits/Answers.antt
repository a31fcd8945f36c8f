-- `four_digits` meets its contract: the tens of both halves are found at once (`tens-is`, proofs/Four.antt), and the
-- ones are what is left of them.
use native.Mathlib.Omega.{arith}
use Rattle.outputs.proofs.Four.{tens-is, ones-left}
use Rattle.outputs.proofs.four_digits.Goals as goal

pub overflow_mul-ones : goal.overflow_mul-ones
overflow_mul-ones c = omega (arith, tens-is c.args.m c.requires)

pub overflow_sub-ones : goal.overflow_sub-ones
overflow_sub-ones c = omega (arith, tens-is c.args.m c.requires, ones-left c.args.m c.requires)

pub overflow_mul-result : goal.overflow_mul-result
overflow_mul-result c = omega (arith, tens-is c.args.m c.requires)

pub overflow_add-result : goal.overflow_add-result
overflow_add-result c = omega (arith, tens-is c.args.m c.requires)

pub overflow_add-result-2 : goal.overflow_add-result-2
overflow_add-result-2 c = omega (arith, tens-is c.args.m c.requires)

pub returns : goal.returns
returns c = omega (arith, tens-is c.args.m c.requires, ones-left c.args.m c.requires)
