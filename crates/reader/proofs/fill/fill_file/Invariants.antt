-- `fill_file` meets its contract: what is filled so far is the invariant (proofs/FillLines.antt), and each statement
-- adds its line and its terms.
use Prim.Native.Nat.{◌-◌}
use lib.ListN.{length}
use Rattle.definitions.specs.Table.{table}
use Rattle.reader.proofs.FillLines.{Fills}
use Rattle.reader.proofs.fill.fill_file.Given as goal

abbrev pub invariant-loop-entry : goal.invariant-loop-entry
invariant-loop-entry l =
    Fills l.options l.s (table l.initial.kinds l.initial.firsts l.initial.counts l.initial.bounds l.initial.weights
    l.initial.literals) l.at l.row l.term
    (table l.kinds l.firsts l.counts l.bounds l.weights l.literals)

abbrev pub decreases-loop-entry : goal.decreases-loop-entry
decreases-loop-entry l =
    length l.s - l.at
