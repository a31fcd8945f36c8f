-- `bits::word_with` meets its contract: where the bit is not yet as it should be, its power of two turns it and no
-- other bit, so that the word stays within 64 bits. Assumes nothing.
use mathlib.Core.Path.{sym}
use mathlib.Core.Bool.{true, false}
use native.Mathlib.Omega.{arith}
use Rattle.bits.proofs.Bits.{with-again, power, one-is, one-is-not, power-within, power-taken, power-added, added-fits}
use Rattle.bits.proofs.word_with.Goals as goal

pub overflow_sub-result : goal.overflow_sub-result
overflow_sub-result c =
    rw (power c.args.k c.requires) (power-within _ _ c.if-word-k-eq1.true)

pub overflow_add-result : goal.overflow_add-result
overflow_add-result c =
    omega (arith, power c.args.k c.requires, added-fits _ _ c.if-word-k-eq1.false c.requires (omega (arith, c.ranges.word)))

pub returns-then-one : goal.returns-then-one
returns-then-one c = rw c.if-one.true (sym (with-again true _ _ (one-is _ _ c.if-word-k-eq1.true)))

pub returns-else-one : goal.returns-else-one
returns-else-one c = rw (c.if-one.false, power _ c.requires) (power-taken _ _ c.if-word-k-eq1.true)

pub returns-then-one-2 : goal.returns-then-one-2
returns-then-one-2 c = rw (c.if-one-2.true, power _ c.requires) (power-added _ _ c.if-word-k-eq1.false)

pub returns-else-one-2 : goal.returns-else-one-2
returns-else-one-2 c = rw c.if-one-2.false (sym (with-again false _ _ (one-is-not _ _ c.if-word-k-eq1.false)))
