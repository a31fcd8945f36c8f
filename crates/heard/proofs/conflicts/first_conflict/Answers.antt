-- `heard::conflicts::first_conflict` meets its contract: the loop has found the first conflict of the variables below
-- the next window (`Searched`, proofs/Searching.antt). The measure is what is left of the indexes. Assumes nothing.
use Prim.Native.Nat.{ℕ}
use mathlib.Core.Path.{ap, ◌∙◌}
use native.Mathlib.Omega.{arith}
use lib.Dec.{ltb}
use Rattle.std.specs.Bool.{then_some}
use Rattle.heard.proofs.Searching.{searched-start, searched-end, searched-less, searched-on}
use Rattle.heard.proofs.conflicts.first_conflict.Goals as goal

pub loop-base-init : goal.loop-base-init
loop-base-init c = searched-start _ _ _ _ _

pub walk_for-w-requires : goal.walk_for-w-requires
walk_for-w-requires c = c.requires

pub loop-base-smaller : goal.loop-base-smaller
loop-base-smaller c =
    searched-less _ _ _ _ _ c.requires _ _ c.loop-base.invariant (omega (arith, c.loop-base-test.true)) _
    c.walk_for-w.ensures

pub loop-base-preserved : goal.loop-base-preserved
loop-base-preserved c =
    searched-on _ _ _ _ _ c.requires _ _ c.loop-base.invariant (omega (arith, c.loop-base-test.true)) _
    c.walk_for-w.ensures _ c.min-found.ensures

pub returns : goal.returns
returns c =
    c.then_some.ensures
    ∙ ap (λ (p : ℕ). then_some (ltb p c.args.end) p)
    (searched-end _ _ _ _ _ c.requires _ _ c.loop-base.invariant (omega (arith, c.loop-base-test.false)))
