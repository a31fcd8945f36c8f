-- `string::string_conflicts` meets its contract. The loop's invariant: the first i digits conflict with nothing
-- (proofs/StringLaws.antt). Assumes nothing.
use Rattle.values.proofs.StringLaws.{Clear}
use Rattle.values.proofs.string.string_conflicts.Given as goal

abbrev pub invariant-loop-i : goal.invariant-loop-i
invariant-loop-i l = Clear l.values l.known l.kept l.text l.i
