-- A count has 20 digits at most.
use Rattle.std.proofs.Common.{arith}
use Rattle.laws.proofs.Digits.{count-length-most}
use Rattle.opbwalk.proofs.head_length.Goals as goal

pub overflow_add-result : goal.overflow_add-result
overflow_add-result c = omega (arith, c.count_length.ensures, count-length-most c.args.terms c.ranges.terms.fits)
