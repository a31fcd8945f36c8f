-- `add_needed` meets its contract: the limit is the greatest number of 64 bits.
use native.Mathlib.Omega.{arith}
use Rattle.definitions.specs.Refusal.{needed}
use Rattle.lengths.proofs.add_needed.Goals as goal

pub returns : goal.returns
returns c = unfold needed in omega arith
