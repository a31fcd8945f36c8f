-- `word::first_gap` meets its contract: the lowest bit that is set in `!word & marks` is one of the marks and none of
-- the word's.
use Rattle.plain_parts.proofs.Gaps.{gap-first}
use Rattle.plain_parts.proofs.word.first_gap.Goals as goal

pub returns : goal.returns
returns c = gap-first c.args.word c.args.marks c.ranges.word.fits
