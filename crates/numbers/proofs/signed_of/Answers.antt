-- `signed_of` meets its contract: 0 less the size, or 0 and the size.
use native.Mathlib.Nat.{zero-add}
use lib.IntN.{+ℤ_idl}
use Rattle.numbers.proofs.signed_of.Goals as goal

pub returns-then-negative : goal.returns-then-negative
returns-then-negative c = rw c.if-negative.true (rw +ℤ_idl at c.checked_sub_unsigned.ensures)

pub returns-else-negative : goal.returns-else-negative
returns-else-negative c = rw c.if-negative.false (rw zero-add at c.checked_add_unsigned.ensures)
