-- `print_few` meets its contract: the digits go where there is room for them and the sign, over the sign's place or
-- behind it (proofs/PrintLaws.antt).
use native.Mathlib.Omega.{arith}
use mathlib.Core.Path.{◌≡◌, ◌∙◌}
use mathlib.Core.Bool.{cond}
use Prim.Native.Nat.{◌+◌, ◌≤◌}
use lib.ListN.{length, length-set}
use Rattle.definitions.specs.Number.{decimal}
use Rattle.definitions.proofs.Numbers.{decimal-length-most}
use Rattle.outputs.specs.Print.{signed_text}
use Rattle.lengths.proofs.DigitPlaces.{last-place}
use Rattle.outputs.proofs.PrintLaws.{refused, has_room, signed-counted, signed-done}
use Rattle.outputs.proofs.print_few.Goals as goal
use Rattle.outputs.proofs.print_few.Goals.{After-places_of-p, Else-not-has_room, Joined-negative, Start, then-negative, else-negative}

-- the digits have been counted
module _ (c : After-places_of-p) where
  abbrev start : Start
  start = (goal.at.After-places_of-p c).Start

  digits : c.places_of-p.result.ones + 1 ≡ length (decimal start.args.m)
  digits = last-place start.args.m start.requires _ c.places_of-p.ensures

  most : c.places_of-p.result.ones ≤ 10000
  most = omega (arith, digits, decimal-length-most start.args.m, start.requires)

-- the sign has been counted
module _ (c : Joined-negative) where
  abbrev places : After-places_of-p
  places = (goal.at.Joined-negative c).After-places_of-p

  sign : c.if-negative.k ≡ cond (start places).args.negative 1 0
  sign = elim c.if-negative.branch [ then-negative w ↦ rw w.if-negative.true w.k-is | else-negative w ↦ rw w.if-negative.false w.k-is ]

  counted : places.places_of-p.result.ones + 1 + c.if-negative.k ≡ length (signed_text (start places).args.negative (start places).args.m)
  counted = signed-counted (start places).args.negative (start places).args.m _ _ sign (digits places)

  short : c.if-negative.k ≤ 1
  short = elim c.if-negative.branch [ then-negative w ↦ omega (arith, w.k-is) | else-negative w ↦ omega (arith, w.k-is) ]

-- what the test says where there is room
room : (c : Else-not-has_room) → let a = (start (places (goal.at.Else-not-has_room c).Joined-negative)).args in
    a.at + ((places (goal.at.Else-not-has_room c).Joined-negative).places_of-p.result.ones + 1 + c.if-negative.k) ≤ length a.out.now
room c =
    let a = (start (places (goal.at.Else-not-has_room c).Joined-negative)).args in
    let r = c.has_room in
    has_room (signed_text a.negative a.m) a.at a.out.now _ (counted (goal.at.Else-not-has_room c).Joined-negative) r.result r.ensures c.if-not-has_room.false

pub overflow_add-n : goal.overflow_add-n
overflow_add-n c = omega (arith, most (goal.at.overflow_add-n c).After-places_of-p)

pub overflow_add-n-2 : goal.overflow_add-n-2
overflow_add-n-2 c = omega (arith, most (places (goal.at.overflow_add-n-2 c).Joined-negative), short (goal.at.overflow_add-n-2 c).Joined-negative)

pub returns-then-not-has_room : goal.returns-then-not-has_room
returns-then-not-has_room c =
    let a = (start (places (goal.at.returns-then-not-has_room c).Joined-negative)).args in
    let r = c.has_room in
    refused (signed_text a.negative a.m) a.at a.out.now _ (counted (goal.at.returns-then-not-has_room c).Joined-negative) r.result r.ensures c.if-not-has_room.true

pub bounds-out-at : goal.bounds-out-at
bounds-out-at c = omega (arith, room c)

pub overflow_add-at : goal.overflow_add-at
overflow_add-at c = omega (arith, room (goal.at.overflow_add-at c).Else-not-has_room)

pub put_few-requires : goal.put_few-requires
put_few-requires c =
    let p = places (goal.at.put_few-requires c).Joined-negative in
    ((start p).requires, p.places_of-p.ensures, simp length-set (omega (arith, room (goal.at.put_few-requires c).Else-not-has_room, digits p)))

pub overflow_add-result : goal.overflow_add-result
overflow_add-result c = omega (arith, room (goal.at.overflow_add-result c).Else-not-has_room)

pub overflow_add-result-2 : goal.overflow_add-result-2
overflow_add-result-2 c = omega (arith, room (goal.at.overflow_add-result-2 c).Else-not-has_room)

pub shape_of-out : goal.shape_of-out
shape_of-out c = c.put_few.auto.out ∙ simp length-set

pub returns : goal.returns
returns c =
    let a = (start (places (goal.at.returns c).Joined-negative)).args in
    signed-done a.negative a.m a.at a.out.now _ _ _ (sign (goal.at.returns c).Joined-negative) (digits (places (goal.at.returns c).Joined-negative)) (room (goal.at.returns c).Else-not-has_room)
    (rw (digits (places (goal.at.returns c).Joined-negative)) c.put_few.ensures)
