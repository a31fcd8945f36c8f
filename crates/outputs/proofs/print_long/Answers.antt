-- `print_long` meets its contract: the digits go where there is room for them and the sign, over the sign's place or
-- behind it (proofs/PrintLaws.antt).
use native.Mathlib.Omega.{arith}
use mathlib.Core.Path.{◌≡◌, ◌∙◌}
use mathlib.Core.Bool.{cond}
use Prim.Native.Nat.{◌+◌, ◌≤◌}
use lib.ListN.{length, length-set}
use Rattle.definitions.proofs.Numbers.{decimal-some}
use Rattle.outputs.specs.Print.{signed_text}
use Rattle.laws.proofs.Digits.{count-length-most}
use Rattle.outputs.proofs.PrintLaws.{refused, has_room, signed-counted, signed-done}
use Rattle.outputs.proofs.print_long.Goals as goal
use Rattle.outputs.proofs.print_long.Goals.{Else-not-has_room, Joined-negative, Start, then-negative, else-negative}

-- the sign has been counted
module _ (c : Joined-negative) where
  abbrev start : Start
  start = (goal.at.Joined-negative c).Start

  sign : c.if-negative.k ≡ cond start.args.negative 1 0
  sign = elim c.if-negative.branch [ then-negative w ↦ rw w.if-negative.true w.k-is | else-negative w ↦ rw w.if-negative.false w.k-is ]

  counted : c.count_length-n.result + c.if-negative.k ≡ length (signed_text start.args.negative start.args.m)
  counted = signed-counted start.args.negative start.args.m _ _ sign c.count_length-n.ensures

  few : c.count_length-n.result + c.if-negative.k ≤ 21
  few = elim c.if-negative.branch [ then-negative w ↦ omega (arith, w.k-is, most) | else-negative w ↦ omega (arith, w.k-is, most) ]
    where
      most : c.count_length-n.result ≤ 20
      most = omega (arith, c.count_length-n.ensures, count-length-most start.args.m (omega arith))

-- what the test says where there is room
room : (c : Else-not-has_room) → let a = (start (goal.at.Else-not-has_room c).Joined-negative).args in
    a.at + (c.count_length-n.result + c.if-negative.k) ≤ length a.out.now
room c =
    let a = (start (goal.at.Else-not-has_room c).Joined-negative).args in
    let r = c.has_room in
    has_room (signed_text a.negative a.m) a.at a.out.now _ (counted (goal.at.Else-not-has_room c).Joined-negative) r.result r.ensures c.if-not-has_room.false

pub overflow_add-n : goal.overflow_add-n
overflow_add-n c = omega (arith, few (goal.at.overflow_add-n c).Joined-negative)

pub returns-then-not-has_room : goal.returns-then-not-has_room
returns-then-not-has_room c =
    let a = (start (goal.at.returns-then-not-has_room c).Joined-negative).args in
    let r = c.has_room in
    refused (signed_text a.negative a.m) a.at a.out.now _ (counted (goal.at.returns-then-not-has_room c).Joined-negative) r.result r.ensures c.if-not-has_room.true

pub bounds-out-at : goal.bounds-out-at
bounds-out-at c =
    omega (arith, room c, c.count_length-n.ensures, decimal-some (start (goal.at.bounds-out-at c).Joined-negative).args.m)

pub overflow_add-at : goal.overflow_add-at
overflow_add-at c = omega (arith, room (goal.at.overflow_add-at c).Else-not-has_room)

pub put_digits-requires : goal.put_digits-requires
put_digits-requires c =
    (c.count_length-n.ensures, simp length-set (omega (arith, room (goal.at.put_digits-requires c).Else-not-has_room)))

pub overflow_add-result : goal.overflow_add-result
overflow_add-result c = omega (arith, room (goal.at.overflow_add-result c).Else-not-has_room)

pub overflow_add-result-2 : goal.overflow_add-result-2
overflow_add-result-2 c = omega (arith, room (goal.at.overflow_add-result-2 c).Else-not-has_room)

pub shape_of-out : goal.shape_of-out
shape_of-out c = c.put_digits.auto.out ∙ simp length-set

pub returns : goal.returns
returns c =
    let a = (start (goal.at.returns c).Joined-negative).args in
    let digits = c.count_length-n.ensures in
    signed-done a.negative a.m a.at a.out.now _ _ _ (sign (goal.at.returns c).Joined-negative) digits (room (goal.at.returns c).Else-not-has_room) c.put_digits.ensures
