-- `blanks::lf_by_bytes` meets its contract. The loop's invariant: i bytes are passed and none is an LF. Assumes nothing.
use Rattle.blanks.specs.FirstLf.{NoLf}
use Rattle.blanks.proofs.lf_by_bytes.Given as goal

abbrev pub invariant-loop-i : goal.invariant-loop-i
invariant-loop-i l = NoLf l.s l.i
