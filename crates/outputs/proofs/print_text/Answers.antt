-- `print_text` meets its contract: the loop copies one byte a turn (`Copying`, proofs/PrintLaws.antt).
use mathlib.Core.Path.{refl}
use Rattle.outputs.proofs.PrintLaws.{refused, has_room, copying-none, copying-more, copying-all}
use Rattle.outputs.proofs.print_text.Goals as goal

pub returns-then-not-has_room : goal.returns-then-not-has_room
returns-then-not-has_room c =
    let a = c.args in
    let r = c.has_room in
    refused a.text.now a.at a.out.now _ refl r.result r.ensures c.if-not-has_room.true

pub loop-i-init : goal.loop-i-init
loop-i-init c =
    let a = c.args in
    let r = c.has_room in
    copying-none _ _ _ (has_room a.text.now a.at a.out.now _ refl r.result r.ensures c.if-not-has_room.false)

pub loop-i-preserved : goal.loop-i-preserved
loop-i-preserved c =
    let l = c.loop-i in
    copying-more _ _ _ l.out l.i l.invariant c.loop-i-test.true

pub shape_of-out : goal.shape_of-out
shape_of-out c = c.loop-i.invariant.long

pub returns : goal.returns
returns c = copying-all _ _ _ c.loop-i.out c.loop-i.i c.loop-i.invariant c.loop-i-test.false
