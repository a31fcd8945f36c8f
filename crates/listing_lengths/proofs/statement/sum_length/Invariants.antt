-- `sum_length` meets its contract: the loop stands at an offset with the fields of the terms before it measured
-- (`SumSized`, proofs/SumLengths.antt). The measure is what is left of the text.
use Prim.Native.Nat.{◌-◌}
use lib.ListN.{length}
use Rattle.listing_lengths.proofs.SumLengths.{SumSized}
use Rattle.listing_lengths.proofs.statement.sum_length.Given as goal

abbrev pub invariant-loop-term : goal.invariant-loop-term
invariant-loop-term l = SumSized l.options l.s l.at l.total

abbrev pub decreases-loop-term : goal.decreases-loop-term
decreases-loop-term l = length l.s - l.at
