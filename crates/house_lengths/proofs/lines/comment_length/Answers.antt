-- `comment_length` meets its contract: the digits of the count, `c`, a tab and an LF.
use native.Mathlib.Omega.{arith}
use Rattle.definitions.specs.Refusal.{needed}
use Rattle.laws.proofs.Digits.{count-length-most}
use Rattle.house_lengths.proofs.WordLaws.{comment-length}
use Rattle.house_lengths.proofs.lines.comment_length.Goals as goal

pub overflow_add-length : goal.overflow_add-length
overflow_add-length c = omega (arith, c.count_length-length.ensures, count-length-most c.args.count c.ranges.count.fits)

pub returns : goal.returns
unfolding needed
returns c = omega (
  arith,
  c.count_length-length.ensures,
  count-length-most c.args.count c.ranges.count.fits,
  comment-length c.args.count,
)
