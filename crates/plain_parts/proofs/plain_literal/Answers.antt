-- `plain_literal` meets its contract: each of its tests is one of `literal_at`'s (proofs/PartAnswers.antt).
use mathlib.Core.List.{List}
use mathlib.Core.Path.{subst}
use Prim.Native.Nat.{ℕ}
use native.Mathlib.Omega.{arith}
use Rattle.plain_parts.specs.InWord.{Begins, LiteralSays, LiteralIs}
use Rattle.plain_parts.proofs.PartAnswers.{literal-short, literal-none, literal-unspaced, literal-zero, literal-found}
use Rattle.plain_parts.proofs.plain_literal.Goals as goal
use Rattle.plain_parts.proofs.plain_literal.Goals.{After-literal_in, In_ok-lanes}

module _ (c : After-literal_in) where
  abbrev text : List ℕ
  text = c.args.s.now

  begins : Begins text c.first_word.result
  begins = record { long = omega (arith, c.if-s-lt8.false); bytes = c.first_word.ensures }

-- a literal has been found in the word
module _ (c : In_ok-lanes) where
  abbrev read : After-literal_in
  read = (goal.at.In_ok-lanes c).After-literal_in

  lit : LiteralIs (text read) c.in_ok-lanes.lanes.marked c.in_ok-lanes.lanes.digits c.in_ok-lanes.lanes.taken
  lit = subst (LiteralSays (text read)) c.in_ok-lanes.was (read.literal_in.ensures (text read) (begins read))

pub returns-then-s-lt8 : goal.returns-then-s-lt8
returns-then-s-lt8 c = literal-short c.args.s.now c.if-s-lt8.true

pub returns-in_err-lanes : goal.returns-in_err-lanes
returns-in_err-lanes c =
    let p = (goal.at.returns-in_err-lanes c).After-literal_in in
    let s = text p in
    rw c.from_residual.ensures (literal-none s (begins p).long (subst (LiteralSays s) c.in_err-lanes.was (c.literal_in.ensures s (begins p))))

pub bounds-s-lanes : goal.bounds-s-lanes
bounds-s-lanes c =
    let p = (goal.at.bounds-s-lanes c).In_ok-lanes in
    omega (arith, (lit p).part.short, (begins (read p)).long)

pub returns-then-s-lanes-ne32 : goal.returns-then-s-lanes-ne32
returns-then-s-lanes-ne32 c =
    let p = (goal.at.returns-then-s-lanes-ne32 c).In_ok-lanes in
    literal-unspaced (text (read p)) (begins (read p)).long (lit p) c.if-s-lanes-ne32.true

pub returns-then-lanes-eq0 : goal.returns-then-lanes-eq0
returns-then-lanes-eq0 c =
    let p = (goal.at.returns-then-lanes-eq0 c).In_ok-lanes in
    literal-zero (text (read p)) (begins (read p)).long (lit p) c.if-s-lanes-ne32.false c.if-lanes-eq0.true

pub returns : goal.returns
returns c =
    let p = (goal.at.returns c).In_ok-lanes in
    literal-found (text (read p)) (begins (read p)).long (lit p) c.if-s-lanes-ne32.false
    (omega (arith, c.if-lanes-eq0.false))
    (omega arith) c.lane_value.ensures
