-- `count_file` meets its contract: 1, or what the walk over the statements counted (proofs/Counted.antt).
use Rattle.counts.proofs.Counted.{count_long, count-short}
use Rattle.counts.proofs.count_file.Goals as goal

pub returns-then-s-gt-FILE_LIMIT : goal.returns-then-s-gt-FILE_LIMIT
returns-then-s-gt-FILE_LIMIT c = count_long _ _ c.if-s-gt-FILE_LIMIT.true

pub returns : goal.returns
returns c = count-short _ _ c.if-s-gt-FILE_LIMIT.false c.count_statements.result c.count_statements.ensures
