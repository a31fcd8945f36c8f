-- `weight_in` meets its contract: digits up to the gap, or a `-` and digits, are all that there is of a weight
-- (proofs/PlainParts.antt).
use mathlib.Core.List.{List}
use Prim.Native.Nat.{ℕ}
use native.Mathlib.Omega.{arith}
use Rattle.plain_parts.specs.InWord.{Begins}
use Rattle.plain_parts.proofs.Gaps.{AtLane, gap_at_lem, weight-marks}
use Rattle.plain_parts.proofs.PlainLanes.{lanes-between}
use Rattle.plain_parts.proofs.PlainParts.{Fronted, weight-front, weight-above, weight-far, minus-near, minus-says, unsigned-says}
use Rattle.plain_parts.proofs.parts.weight_in.Goals as goal
use Rattle.plain_parts.proofs.parts.weight_in.Goals.{After-first_gap-gap, Else-gap-gt60}

module _ (c : After-first_gap-gap) where
  abbrev word : ℕ
  word = c.args.word

  front : (s : List ℕ) → Begins s word → Fronted s 1 word c.first_gap-gap.result
  front s b = weight-front s _ _ b c.first_gap-gap.ensures

-- the gap is in the word
module _ (c : Else-gap-gt60) where
  at : AtLane 1 c.first_gap-gap.result
  at = gap_at_lem weight-marks c.first_gap-gap.ensures (omega (arith, c.if-gap-gt60.false))

pub returns-then-word-gt-NINE : goal.returns-then-word-gt-NINE
returns-then-word-gt-NINE c = λ s b. weight-above s _ b.bytes c.if-word-gt-NINE.true

pub returns-then-gap-gt60 : goal.returns-then-gap-gt60
returns-then-gap-gt60 c =
    let p = (goal.at.returns-then-gap-gt60 c).After-first_gap-gap in
    λ s b. weight-far (front p s b) c.if-gap-gt60.true

pub returns-then-gap-lt16 : goal.returns-then-gap-lt16
returns-then-gap-lt16 c =
    let p = (goal.at.returns-then-gap-lt16 c).After-first_gap-gap in
    λ s b. minus-near (front p s b) c.if-word-eq-MINUS.true c.if-gap-lt16.true

pub digits_in-requires : goal.digits_in-requires
digits_in-requires c =
    let p = (goal.at.digits_in-requires c).Else-gap-gt60 in
    let a = at p in lanes-between 1 a (omega (arith, a.is, c.if-gap-lt16.false))

pub returns-then-word-eq-MINUS : goal.returns-then-word-eq-MINUS
returns-then-word-eq-MINUS c =
    let p = (goal.at.returns-then-word-eq-MINUS c).After-first_gap-gap in
    λ s b.
    minus-says (front p s b) c.if-word-eq-MINUS.true (omega (arith, c.if-gap-gt60.false)) c.if-gap-lt16.false
    c.digits_in.result c.digits_in.ensures

pub overflow_sub-gap-2 : goal.overflow_sub-gap-2
overflow_sub-gap-2 c = omega (arith, (at (goal.at.overflow_sub-gap-2 c).Else-gap-gt60).is)

pub digits_in-requires-2 : goal.digits_in-requires-2
digits_in-requires-2 c =
    let p = (goal.at.digits_in-requires-2 c).Else-gap-gt60 in
    let a = at p in lanes-between 0 a (omega (arith, a.is, a.least))

pub returns : goal.returns
returns c =
    let p = (goal.at.returns c).After-first_gap-gap in
    λ s b.
    unsigned-says (front p s b) c.if-word-eq-MINUS.false (omega (arith, c.if-gap-gt60.false)) c.digits_in-2.result
    c.digits_in-2.ensures
