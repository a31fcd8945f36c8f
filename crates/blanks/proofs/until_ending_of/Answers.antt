-- `blanks::until_ending_of` meets its contract: the first LF, and the byte before it. Assumes nothing.
use Rattle.blanks.proofs.LfGroups.{first-cr, first-alone, first-none, first-at-front}
use Rattle.blanks.proofs.until_ending_of.Goals as goal
use Rattle.blanks.proofs.until_ending_of.Goals.{else-i-gt0-via-then-i-gt0+then-i-s+else-s-i-eq13, else-i-gt0-via-then-i-gt0+else-i-s, else-i-gt0-via-else-i-gt0}

pub returns-then-s-i-eq13 : goal.returns-then-s-i-eq13
returns-then-s-i-eq13 c = first-cr c.args.s.now c.first_lf-i.result c.first_lf-i.ensures c.if-i-s.true c.if-i-gt0.true c.if-s-i-eq13.true

pub returns : goal.returns
returns c =
    let s = c.args.s.now in
    let i = c.first_lf-i.result in
    elim c.else-i-gt0.branch [
      | else-i-gt0-via-then-i-gt0+then-i-s+else-s-i-eq13 w ↦ first-alone s i c.first_lf-i.ensures w.if-i-s.true w.if-i-gt0.true w.if-s-i-eq13.false
      | else-i-gt0-via-then-i-gt0+else-i-s w ↦ first-none s i c.first_lf-i.ensures w.if-i-s.false
      | else-i-gt0-via-else-i-gt0 w ↦ first-at-front s i c.first_lf-i.ensures w.if-i-gt0.false
    ]
