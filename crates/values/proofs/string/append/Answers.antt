-- `string::append` meets its contract. The loop's invariant: what the first i digits leave in both rows
-- (proofs/StringLaws.antt). Assumes nothing.
use native.Mathlib.Omega.{arith}
use Rattle.values.proofs.StringLaws.{appended-none, appended-all, appended-lengths, appended-more}
use Rattle.values.proofs.string.append.Goals as goal

pub loop-i-init : goal.loop-i-init
loop-i-init c = appended-none _ _ _ _

pub loop-i-preserved : goal.loop-i-preserved
loop-i-preserved c =
    let l = c.loop-i in
    appended-more _ _ _ _ _ _ _ l.invariant c.loop-i-test.true _ c.literal_at.ensures _ _ c.make_true.ensures.values
    c.make_true.ensures.known

pub shape_of-values : goal.shape_of-values
shape_of-values c = (appended-lengths _ _ _ _ _ _ _ c.loop-i.invariant).0

pub shape_of-known : goal.shape_of-known
shape_of-known c = (appended-lengths _ _ _ _ _ _ _ c.loop-i.invariant).1

pub returns : goal.returns
returns c = let p = appended-all _ _ _ _ _ _ _ c.loop-i.invariant (omega arith) in record { values = p.0; known = p.1 }
