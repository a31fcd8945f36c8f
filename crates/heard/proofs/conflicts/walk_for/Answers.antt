-- `heard::conflicts::walk_for` meets its contract: the window's marks are lent to the walk with none set. Assumes
-- nothing.
use Prim.Native.Nat.{ℕ}
use lib.ListN.{length-replicate}
use Rattle.heard.proofs.Searching.{zeros-unmarked}
use Rattle.heard.proofs.conflicts.walk_for.Goals as goal

pub mark_window-requires : goal.mark_window-requires
mark_window-requires c = record { size = length-replicate {A = ℕ} 32768 0; unmarked = zeros-unmarked 32768; places = c.requires }
