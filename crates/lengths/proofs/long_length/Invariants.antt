-- `long_length` meets its contract: the loop goes through the powers of ten that are at most m (`Counting`,
-- proofs/Counts.antt).
use Prim.Native.Nat.{◌-◌}
use Rattle.lengths.proofs.Counts.{Counting}
use Rattle.lengths.proofs.long_length.Given as goal

abbrev pub invariant-loop-power : goal.invariant-loop-power
invariant-loop-power l = Counting l.m l.n l.power

abbrev pub decreases-loop-power : goal.decreases-loop-power
decreases-loop-power l = 20 - l.n
