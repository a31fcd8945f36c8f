-- `string::fits` meets its contract: a length beyond the variables leaves no room, and else what is left of them is the
-- room. Assumes nothing.
use Prim.Native.Nat.{◌+◌}
use mathlib.Core.Path.{sym, ◌∙◌}
use native.Mathlib.Omega.{arith}
use borrow.Author.Tests.{lt-leb}
use Rattle.definitions.specs.Limits.{index_limit}
use Rattle.values.proofs.StringLaws.{leb-less}
use Rattle.values.proofs.string.fits.Goals as goal

pub returns-then-kept-le-VARIABLES : goal.returns-then-kept-le-VARIABLES
returns-then-kept-le-VARIABLES c = let a = c.args in leb-less (index_limit + 1) a.kept a.count (omega arith)

pub returns-else-kept-le-VARIABLES : goal.returns-else-kept-le-VARIABLES
returns-else-kept-le-VARIABLES c = let a = c.args in
    lt-leb a.kept (index_limit + 1) (omega arith) ∙ sym (lt-leb (a.kept + a.count) (index_limit + 1) (omega arith))
