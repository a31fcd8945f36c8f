-- `string::append` meets its contract. The loop's invariant: what the first i digits leave in both rows
-- (proofs/StringLaws.antt). Assumes nothing.
use Rattle.values.proofs.StringLaws.{Appended}
use Rattle.values.proofs.string.append.Given as goal

abbrev pub invariant-loop-i : goal.invariant-loop-i
invariant-loop-i l = Appended l.initial.values l.initial.known l.kept l.text l.values l.known l.i
