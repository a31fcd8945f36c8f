-- `put_literal` meets its contract: the number, and what stands before it (proofs/Literals.antt); or nothing.
use native.Mathlib.Omega.{arith}
use mathlib.Core.Path.{◌≡◌}
use Prim.Native.Nat.{◌+◌, ◌≤◌}
use lib.ListN.{length, length-set}
use Rattle.definitions.specs.Number.{decimal}
use Rattle.outputs.specs.Print.{Prints}
use Rattle.lines.proofs.Literals.{cross_at, no_place, no-number-put, has-place, literal-put}
use Rattle.lines.proofs.terms.put_literal.Goals as goal
use Rattle.lines.proofs.terms.put_literal.Goals.{After-print_count, In-Some, Joined-tilde, Start, else-tilde, then-tilde}

module _ (c : Joined-tilde) where
  abbrev start : Start
  start = (goal.at.Joined-tilde c).Start

  cross : c.if-tilde.x ≡ cross_at start.args.tilde
  cross = elim c.if-tilde.branch [ then-tilde w ↦ rw w.if-tilde.true w.x-is | else-tilde w ↦ rw w.if-tilde.false w.x-is ]

  short : c.if-tilde.x ≤ 2
  short = elim c.if-tilde.branch [ then-tilde w ↦ omega (arith, w.x-is) | else-tilde w ↦ omega (arith, w.x-is) ]

  far : 1 ≤ c.if-tilde.x
  far = elim c.if-tilde.branch [ then-tilde w ↦ omega (arith, w.x-is) | else-tilde w ↦ omega (arith, w.x-is) ]

module _ (c : After-print_count) where
  abbrev joined : Joined-tilde
  joined = (goal.at.After-print_count c).Joined-tilde

  printed : Prints (decimal (start joined).args.n.0) ((start joined).args.at + joined.if-tilde.x + 1) (start joined).args.out.now
      c.print_count.result c.print_count.new.out
  printed = rw joined.number-number.ensures at c.print_count.ensures

module _ (c : In-Some) where
  abbrev counted : After-print_count
  counted = (goal.at.In-Some c).After-print_count

  room : let j = joined counted in
      (start j).args.at + j.if-tilde.x + 1 + length (decimal (start j).args.n.0) ≤ length (start j).args.out.now
  room =
      let j = joined counted in
      let s = start j in
      has-place s.args.tilde s.args.n.0 s.args.at j.if-tilde.x (cross j) s.args.out.now _ _ (printed counted)
      _ c.in-Some.is

  long : length counted.print_count.new.out ≡ length (start (joined counted)).args.out.now
  long = counted.print_count.auto.out

  some : 1 ≤ (joined counted).if-tilde.x
  some = far (joined counted)

pub returns-then-at-out : goal.returns-then-at-out
returns-then-at-out c = let s = start (goal.at.returns-then-at-out c).Joined-tilde in no_place s.args.tilde s.args.n.0 s.args.at s.args.out.now c.if-at-out.true

pub overflow_add-at : goal.overflow_add-at
overflow_add-at c = omega (arith, c.if-at-out.false, short (goal.at.overflow_add-at c).Joined-tilde, (start (goal.at.overflow_add-at c).Joined-tilde).well_formed)

pub overflow_add-at-2 : goal.overflow_add-at-2
overflow_add-at-2 c = omega (arith, c.if-at-out.false, short (goal.at.overflow_add-at-2 c).Joined-tilde, (start (goal.at.overflow_add-at-2 c).Joined-tilde).well_formed)

pub returns-in_default : goal.returns-in_default
returns-in_default c =
    let j = joined (goal.at.returns-in_default c).After-print_count in
    let s = start j in
    no-number-put s.args.tilde s.args.n.0 s.args.at j.if-tilde.x (cross j) s.args.out.now _ _ (printed (goal.at.returns-in_default c).After-print_count)
    c.in_default.is

pub bounds-out-at : goal.bounds-out-at
bounds-out-at c = omega (arith, room c, long c, some c)

pub overflow_add-out-2 : goal.overflow_add-out-2
overflow_add-out-2 c = omega (arith, room c, long c, (start (joined (goal.at.overflow_add-out-2 c).After-print_count)).well_formed)

pub bounds-out-at-2 : goal.bounds-out-at-2
bounds-out-at-2 c = simp length-set (omega (arith, room c, long c))

pub bounds-out-at-3 : goal.bounds-out-at-3
bounds-out-at-3 c = simp length-set (omega (arith, room c, long c))

pub returns : goal.returns
returns c =
    let j = joined (goal.at.returns c).After-print_count in
    let s = start j in
    literal-put s.args.tilde s.args.n.0 s.args.at j.if-tilde.x (cross j) s.args.out.now _ _ (printed (goal.at.returns c).After-print_count)
    _ c.in-Some.is
