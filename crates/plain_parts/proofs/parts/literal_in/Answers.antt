-- `literal_in` meets its contract: `x` or `~x` and digits up to the gap are all that there is of a literal
-- (proofs/PlainParts.antt).
use mathlib.Core.List.{List}
use Prim.Native.Nat.{ℕ}
use native.Mathlib.Omega.{arith}
use Rattle.plain_parts.specs.InWord.{Begins}
use Rattle.plain_parts.proofs.Gaps.{AtLane, gap_at_lem, literal-marks}
use Rattle.plain_parts.proofs.PlainLanes.{lanes-between}
use Rattle.plain_parts.proofs.PlainParts.{Fronted, literal-front, literal-far, literal-other, letter-says, tilde-near, tilde-says}
use Rattle.plain_parts.proofs.parts.literal_in.Goals as goal
use Rattle.plain_parts.proofs.parts.literal_in.Goals.{After-first_gap-gap, Else-gap-gt60}

module _ (c : After-first_gap-gap) where
  abbrev word : ℕ
  word = c.args.word

  front : (s : List ℕ) → Begins s word → Fronted s 2 word c.first_gap-gap.result
  front s b = literal-front s _ _ b c.first_gap-gap.ensures

-- the gap is in the word
module _ (c : Else-gap-gt60) where
  at : AtLane 2 c.first_gap-gap.result
  at = gap_at_lem literal-marks c.first_gap-gap.ensures (omega (arith, c.if-gap-gt60.false))

pub returns-then-gap-gt60 : goal.returns-then-gap-gt60
returns-then-gap-gt60 c =
    let p = (goal.at.returns-then-gap-gt60 c).After-first_gap-gap in
    λ s b. literal-far (front p s b) c.if-gap-gt60.true

pub overflow_sub-gap : goal.overflow_sub-gap
overflow_sub-gap c = let a = at (goal.at.overflow_sub-gap c).Else-gap-gt60 in omega (arith, a.is, a.least)

pub digits_in-requires : goal.digits_in-requires
digits_in-requires c =
    let p = (goal.at.digits_in-requires c).Else-gap-gt60 in
    let a = at p in lanes-between 1 a (omega (arith, a.is, a.least))

pub returns-then-word-eq-X : goal.returns-then-word-eq-X
returns-then-word-eq-X c =
    let p = (goal.at.returns-then-word-eq-X c).After-first_gap-gap in
    λ s b.
    letter-says (front p s b) c.if-word-eq-X.true (omega (arith, c.if-gap-gt60.false)) c.digits_in.result
    c.digits_in.ensures

pub returns-then-word-ne-TILDE_X : goal.returns-then-word-ne-TILDE_X
returns-then-word-ne-TILDE_X c = λ s b. literal-other s _ b.bytes c.if-word-eq-X.false c.if-word-ne-TILDE_X.true

pub returns-then-gap-lt24 : goal.returns-then-gap-lt24
returns-then-gap-lt24 c =
    let p = (goal.at.returns-then-gap-lt24 c).After-first_gap-gap in
    λ s b. tilde-near (front p s b) c.if-word-ne-TILDE_X.false c.if-gap-lt24.true

pub digits_in-requires-2 : goal.digits_in-requires-2
digits_in-requires-2 c =
    let p = (goal.at.digits_in-requires-2 c).Else-gap-gt60 in
    let a = at p in lanes-between 2 a (omega (arith, a.is, c.if-gap-lt24.false))

pub returns : goal.returns
returns c =
    let p = (goal.at.returns c).After-first_gap-gap in
    λ s b.
    tilde-says (front p s b) c.if-word-ne-TILDE_X.false (omega (arith, c.if-gap-gt60.false)) c.if-gap-lt24.false
    c.digits_in-2.result c.digits_in-2.ensures
