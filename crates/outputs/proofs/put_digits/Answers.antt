-- `put_digits` meets its contract: the loop writes four digits a turn, the last ones first, and what is left has four
-- or fewer (`Writing`, proofs/PrintLaws.antt).
use native.Mathlib.Omega.{arith}
use mathlib.Core.Path.{◌∙◌}
use Rattle.outputs.proofs.PrintLaws.{writing-none, writing-some, writing_more, writing-room, writing-last}
use Rattle.outputs.proofs.put_digits.Goals as goal

pub loop-x-init : goal.loop-x-init
loop-x-init c = writing-none _ _ _ _ c.requires.0 c.requires.1

pub overflow_sub-k : goal.overflow_sub-k
overflow_sub-k c = (writing-some _ _ _ _ _ _ _ c.loop-x.invariant c.loop-x-test.true).0

pub put_four-requires : goal.put_four-requires
put_four-requires c = (omega arith, (writing-some _ _ _ _ _ _ _ c.loop-x.invariant c.loop-x-test.true).1)

pub loop-x-preserved : goal.loop-x-preserved
loop-x-preserved c =
    let put = c.put_four in
    writing_more _ _ _ _ _ _ _ c.loop-x.invariant c.loop-x-test.true _ put.ensures put.auto.out

pub put_few-requires : goal.put_few-requires
put_few-requires c =
    (omega arith, c.places_of.ensures, writing-room _ _ _ _ _ _ _ c.loop-x.invariant)

pub shape_of-out : goal.shape_of-out
shape_of-out c = c.put_few.auto.out ∙ c.loop-x.invariant.long

pub returns : goal.returns
returns c =
    writing-last _ _ _ _ _ _ _ c.loop-x.invariant _ c.put_few.ensures
