-- `plain_weight` meets its contract: each of its tests is one of `weight_at`'s (proofs/PartAnswers.antt).
use mathlib.Core.List.{List}
use mathlib.Core.Path.{subst}
use Prim.Native.Nat.{ℕ}
use native.Mathlib.Omega.{arith}
use Rattle.plain_parts.specs.InWord.{Begins, WeightSays, WeightIs}
use Rattle.plain_parts.proofs.PartAnswers.{weight-short, weight-none, weight-unspaced, weight-found}
use Rattle.plain_parts.proofs.plain_weight.Goals as goal
use Rattle.plain_parts.proofs.plain_weight.Goals.{After-weight_in, In_ok-lanes}

module _ (c : After-weight_in) where
  abbrev text : List ℕ
  text = c.args.s.now

  begins : Begins text c.first_word.result
  begins = record { long = omega (arith, c.if-s-lt8.false); bytes = c.first_word.ensures }

-- a weight has been found in the word
module _ (c : In_ok-lanes) where
  abbrev read : After-weight_in
  read = (goal.at.In_ok-lanes c).After-weight_in

  weight : WeightIs (text read) c.in_ok-lanes.lanes.marked c.in_ok-lanes.lanes.digits c.in_ok-lanes.lanes.taken
  weight = subst (WeightSays (text read)) c.in_ok-lanes.was (read.weight_in.ensures (text read) (begins read))

pub returns-then-s-lt8 : goal.returns-then-s-lt8
returns-then-s-lt8 c = weight-short c.args.s.now c.if-s-lt8.true

pub returns-in_err-lanes : goal.returns-in_err-lanes
returns-in_err-lanes c =
    let p = (goal.at.returns-in_err-lanes c).After-weight_in in
    let s = text p in
    rw c.from_residual.ensures (weight-none s (begins p).long (subst (WeightSays s) c.in_err-lanes.was (c.weight_in.ensures s (begins p))))

pub bounds-s-lanes : goal.bounds-s-lanes
bounds-s-lanes c =
    let p = (goal.at.bounds-s-lanes c).In_ok-lanes in
    omega (arith, (weight p).part.short, (begins (read p)).long)

pub returns-then-s-lanes-ne32 : goal.returns-then-s-lanes-ne32
returns-then-s-lanes-ne32 c =
    let p = (goal.at.returns-then-s-lanes-ne32 c).In_ok-lanes in
    weight-unspaced (text (read p)) (begins (read p)).long (weight p) c.if-s-lanes-ne32.true

pub returns : goal.returns
returns c =
    let p = (goal.at.returns c).In_ok-lanes in
    weight-found (text (read p)) (begins (read p)).long (weight p) c.if-s-lanes-ne32.false c.lane_value.ensures
