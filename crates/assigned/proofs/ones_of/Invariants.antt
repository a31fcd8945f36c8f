-- `assigned::ones_of` meets its contract. The loop's invariant: the known ones of the words passed (`Counted`,
-- proofs/Counts.antt), at most 64 of each. Assumes nothing.
use Rattle.std.proofs.Common.{option_copied}
use Rattle.assigned.proofs.Counts.{Counted}
use Rattle.assigned.proofs.ones_of.Given as goal

abbrev pub invariant-loop-i : goal.invariant-loop-i
invariant-loop-i l = Counted (option_copied l.known) l.looked l.i l.ones
