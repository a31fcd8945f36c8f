-- `measure_statements` meets its contract: the loop stands at an offset with what the lines before it have counted and
-- measured (`FileSized`, proofs/FileLengths.antt). The measure is what is left of
-- the file.
use Prim.Native.Nat.{◌-◌}
use lib.ListN.{length}
use Rattle.listing_lengths.proofs.FileLengths.{FileSized}
use Rattle.listing_lengths.proofs.measure_statements.Given as goal

abbrev pub invariant-loop-entry : goal.invariant-loop-entry
invariant-loop-entry l = FileSized l.options l.s l.at l.rows l.terms l.lines

abbrev pub decreases-loop-entry : goal.decreases-loop-entry
decreases-loop-entry l = length l.s - l.at
