-- `string::string_conflicts` meets its contract. The loop's invariant: the first i digits conflict with nothing
-- (proofs/StringLaws.antt). Assumes nothing.
use native.Mathlib.Omega.{arith}
use Rattle.values.proofs.StringLaws.{clear_none, clear-all, clear-found, clear-more}
use Rattle.values.proofs.string.string_conflicts.Goals as goal

pub loop-i-init : goal.loop-i-init
loop-i-init c = clear_none _ _ _ _

pub returns-then-is_otherwise : goal.returns-then-is_otherwise
returns-then-is_otherwise c =
    clear-found _ _ _ _ _ c.loop-i.invariant c.loop-i-test.true _ c.literal_at.ensures
    _ c.is_otherwise.ensures c.if-is_otherwise.true

pub loop-i-preserved : goal.loop-i-preserved
loop-i-preserved c =
    clear-more _ _ _ _ _ c.loop-i.invariant c.loop-i-test.true _ c.literal_at.ensures
    _ c.is_otherwise.ensures c.if-is_otherwise.false

pub returns : goal.returns
returns c = clear-all _ _ _ _ _ c.loop-i.invariant (omega arith)
