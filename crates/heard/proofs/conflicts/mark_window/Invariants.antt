-- `heard::conflicts::mark_window` meets its contract: the loop stands at an offset with the marks and the answer so far
-- (`Walk`, proofs/Marking.antt). The measure is what is left of the block. Assumes nothing.
use Prim.Native.Nat.{◌-◌}
use lib.ListN.{length}
use Rattle.heard.proofs.Marking.{Walk}
use Rattle.heard.proofs.conflicts.mark_window.Given as goal

abbrev pub invariant-loop-said : goal.invariant-loop-said
invariant-loop-said l =
    Walk l.named l.values l.known l.block l.end l.base l.marks l.found l.at l.opens

abbrev pub decreases-loop-said : goal.decreases-loop-said
decreases-loop-said l = length l.block - l.at
