-- `put_comment` meets its contract: `c`, the field, and an LF.
use native.Mathlib.Omega.{arith}
use mathlib.Core.Path.{◌≡◌, refl}
use mathlib.Core.List.{[], ◌∷◌}
use Prim.Native.Nat.{◌+◌, ◌≤◌, ◌<◌}
use lib.ListN.{length, length-set, length-append}
use Rattle.definitions.specs.Number.{decimal}
use Rattle.definitions.specs.House.{field}
use Rattle.laws.proofs.Puts.{Puts, puts-length}
use Rattle.laws.proofs.BytePuts.{byte-then, then-byte}
use Rattle.puts.proofs.LandLaws.{lands}
use Rattle.house.proofs.lines.put_comment.Goals as goal
use Rattle.house.proofs.lines.put_comment.Goals.{After-put_field-end, Start}

room : (s : Start) → s.args.at + (length (decimal s.args.count) + 3) ≤ length s.args.out.now
room s = omega (arith, s.requires, length-append (field (decimal s.args.count)) (10 ∷ []))

module _ (c : After-put_field-end) where
  abbrev start : Start
  start = (goal.at.After-put_field-end c).Start

  field_put : Puts (99 ∷ field (decimal start.args.count)) start.args.at start.args.out.now c.put_field-end.result
      c.put_field-end.new.out
  field_put = byte-then 99 start.args.at (start.args.at + 1) start.args.out.now (omega (arith, room start)) refl
      (lands (field (decimal start.args.count)) (start.args.at + 1) _ c.put_field-end.ensures
      (simp length-set (omega (arith, room start))))

  put-room : (c.put_field-end.result < length c.put_field-end.new.out) ×
      (length c.put_field-end.new.out ≡ length start.args.out.now)
  put-room =
      let l = puts-length field_put (omega (arith, room start)) in
      (omega (arith, room start, l, field_put.place), l)

pub bounds-out-end : goal.bounds-out-end
bounds-out-end c = omega (arith, put-room (goal.at.bounds-out-end c).After-put_field-end)

pub overflow_add-result : goal.overflow_add-result
overflow_add-result c = omega (arith, put-room (goal.at.overflow_add-result c).After-put_field-end, c.well_formed)

pub shape_of-out : goal.shape_of-out
shape_of-out c =
    simp length-set (puts-length (field_put (goal.at.shape_of-out c).After-put_field-end) (omega (arith, room (goal.at.shape_of-out c).Start)))

pub returns : goal.returns
returns c = then-byte 10 _ (omega (arith, room (goal.at.returns c).Start)) refl (field_put (goal.at.returns c).After-put_field-end)
