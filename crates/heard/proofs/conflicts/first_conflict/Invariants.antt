-- `heard::conflicts::first_conflict` meets its contract: the loop has found the first conflict of the variables below
-- the next window (`Searched`, proofs/Searching.antt). The measure is what is left of the indexes. Assumes nothing.
use Prim.Native.Nat.{◌+◌, ◌-◌}
use Rattle.definitions.specs.Limits.{index_limit}
use Rattle.heard.proofs.Searching.{Searched}
use Rattle.heard.proofs.conflicts.first_conflict.Given as goal

abbrev pub invariant-loop-base : goal.invariant-loop-base
invariant-loop-base l = Searched l.named l.values l.known l.block l.end l.base l.found

abbrev pub decreases-loop-base : goal.decreases-loop-base
decreases-loop-base l = index_limit + 1 - l.base
