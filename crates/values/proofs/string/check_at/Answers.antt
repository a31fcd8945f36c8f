-- `string::check_at` meets its contract: 5, then 22, then what stands behind the string (proofs/Checks.antt). Assumes
-- nothing.
use Prim.Native.Nat.{◌≤◌}
use mathlib.Core.Path.{ap}
use mathlib.Core.Bool.{not}
use mathlib.Core.List.{[]}
use native.Mathlib.Omega.{arith}
use lib.ListN.{length}
use Rattle.values.proofs.Checks.{end-within, is-beyond, text-fits, is-conflict, is-behind}
use Rattle.values.proofs.string.check_at.Goals as goal
use Rattle.values.proofs.string.check_at.Goals.{After-fits, Start}

-- the string lies within the block
within : (s : Start) → (s.args.string.place ≤ s.args.string.end) × (s.args.string.end ≤ length s.args.block.now)
within s = end-within s.args.block.now s.args.string.place s.args.string.end s.requires.ends s.requires.within

abbrev start : After-fits → Start
start c = (goal.at.After-fits c).Start

pub overflow_sub-end : goal.overflow_sub-end
overflow_sub-end c = omega (arith, (within (goal.at.overflow_sub-end c).Start).0)

pub returns-then-not-fits : goal.returns-then-not-fits
returns-then-not-fits c = is-beyond _ _ _ (start (goal.at.returns-then-not-fits c).After-fits).requires.ends _ _ _ _ c.fits.ensures (ap not c.if-not-fits.true)

pub slice_bounds-string_conflicts-count : goal.slice_bounds-string_conflicts-count
slice_bounds-string_conflicts-count c = omega (arith, (within (start (goal.at.slice_bounds-string_conflicts-count c).After-fits)).0)

pub slice_bounds-string_conflicts-start : goal.slice_bounds-string_conflicts-start
slice_bounds-string_conflicts-start c = omega (arith, (within (start (goal.at.slice_bounds-string_conflicts-start c).After-fits)).0)

pub slice_bounds-string_conflicts-end : goal.slice_bounds-string_conflicts-end
slice_bounds-string_conflicts-end c = omega (arith, (within (start (goal.at.slice_bounds-string_conflicts-end c).After-fits)).1)

pub string_conflicts-requires : goal.string_conflicts-requires
string_conflicts-requires c =
    text-fits _ _ _ (start (goal.at.string_conflicts-requires c).After-fits).requires.ends _ [] [] _ c.fits.ensures (ap not c.if-not-fits.false)

pub returns-then-string_conflicts : goal.returns-then-string_conflicts
returns-then-string_conflicts c =
    is-conflict _ _ _ (start (goal.at.returns-then-string_conflicts c).After-fits).requires.ends _ _ _ _ c.fits.ensures (ap not c.if-not-fits.false) _ c.string_conflicts.ensures c.if-string_conflicts.true

pub returns : goal.returns
returns c =
    is-behind _ _ _ (start (goal.at.returns c).After-fits).requires.ends _ _ _ _ c.fits.ensures (ap not c.if-not-fits.false) _ c.string_conflicts.ensures
    c.if-string_conflicts.false _ c.check_behind.ensures
