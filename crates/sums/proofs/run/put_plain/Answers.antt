-- `put_plain` meets its contract: both columns have the place, or neither changes (proofs/Walking.antt); what is put is
-- the term's weight and its literal's code.
use Prim.Native.Nat.{ℕ}
use native.Mathlib.Omega.{arith}
use mathlib.Core.Path.{◌≡◌, refl, sym, ap, ◌∙◌}
use Rattle.literals.specs.Said.{said_lit}
use Rattle.literals.proofs.Conversions.{accepted, no-refusal}
use Rattle.plain.specs.Plain.{plain_term}
use Rattle.sums.proofs.Walking.{put-there, put-nowhere}
use Rattle.sums.proofs.Runs.{minus-fits, plain-coded, weight-negative, weight-plain}
use Rattle.sums.proofs.run.put_plain.Goals as goal
use Rattle.sums.proofs.run.put_plain.Goals.{After-of_digits, In-Some, Joined-term, Start, then-term, else-term}

-- the literal is there
module _ (c : In-Some) where
  abbrev lit : After-of_digits
  lit = (goal.at.In-Some c).After-of_digits

  abbrev start : Start
  start = (goal.at.In-Some c).Start

  code_is : {x : ℕ} → x ≡ c.in-Some.literal.0 → x ≡ (plain_term start.args.first start.args.term).code
  code_is e = e ∙ accepted _ _ (sym (ap said_lit c.in-Some.is) ∙ plain-coded start.requires lit.of_digits.ensures)

-- and the weight
module _ (c : Joined-term) where
  abbrev begin : Start
  begin = start (goal.at.Joined-term c).In-Some

pub returns-in_default : goal.returns-in_default
returns-in_default c = absurd (no-refusal _ 5 (sym (plain-coded c.requires c.of_digits.ensures) ∙ ap said_lit c.in_default.is))

pub overflow_sub-weights : goal.overflow_sub-weights
overflow_sub-weights c = minus-fits _ (start (goal.at.overflow_sub-weights c).In-Some).requires.size

pub returns-after-term : goal.returns-after-term
returns-after-term c =
    let b = begin (goal.at.returns-after-term c).Joined-term in
    let room = lit (goal.at.returns-after-term c).In-Some in
    let code = code_is (goal.at.returns-after-term c).In-Some c.code.ensures in
    elim c.if-term.branch [
      | then-term w ↦ rw (w.weights-is ∙ weight-negative _ b.requires.size w.if-term.true refl, code)
          (put-there b.args.at _ _ b.args.weights.now b.args.literals.now (omega (arith, room.term_room.ensures, room.if-at-term_room.true)))
      | else-term w ↦ rw (w.weights-is ∙ weight-plain _ b.requires.size w.if-term.false refl, code)
          (put-there b.args.at _ _ b.args.weights.now b.args.literals.now (omega (arith, room.term_room.ensures, room.if-at-term_room.true)))
    ]

pub returns-else-at-term_room : goal.returns-else-at-term_room
returns-else-at-term_room c =
    let a = c.args in
    put-nowhere a.at _ _ a.weights.now a.literals.now (omega (arith, c.term_room.ensures, c.if-at-term_room.false))
