-- `plain_term` meets its contract: each of its tests is one of `plain_at`'s (proofs/PlainAnswers.antt).
use Prim.Native.Nat.{ℕ, ◌+◌, ◌≤◌}
use mathlib.Core.List.{List}
use mathlib.Core.Path.{◌≡◌, refl, sym, ap, ◌∙◌}
use native.Mathlib.Omega.{arith}
use lib.ListN.{length}
use Rattle.plain_parts.specs.PartForms.{said_weight, said_literal, literal_at}
use Rattle.plain_parts.proofs.PartAnswers.{WeightHere, weight-here, LiteralHere, literal-here}
use Rattle.plain.specs.Plain.{behind}
use Rattle.plain.proofs.PlainAnswers.{too_short, first_above, no-weight, gap-short, literal-part, no-literal, long-short, two-blanks}
use Rattle.plain.proofs.PlainAnswers.{plain-found}
use Rattle.plain.proofs.plain_term.Goals as goal
use Rattle.plain.proofs.plain_term.Goals.{After-plain_literal, Else-options-gt1, In_ok-literal, In_ok-weight}

-- the text is long enough, and the first index is 0 or 1
module _ (c : Else-options-gt1) where
  abbrev text : List ℕ
  text = c.args.s.now

  long : 17 ≤ length text
  long = omega (arith, c.if-s-lt17.false)

  first : c.args.options.first ≤ 1
  first = omega (arith, c.if-options-gt1.false)

-- the weight has been read
module _ (c : In_ok-weight) where
  abbrev fits : Else-options-gt1
  fits = (goal.at.In_ok-weight c).Else-options-gt1

  abbrev gap : ℕ
  gap = c.in_ok-weight.weight.taken

  weight : WeightHere (text fits) c.in_ok-weight.weight.negative c.in_ok-weight.weight.size gap
  weight = weight-here (text fits) _ _ _ (ap said_weight (sym c.in_ok-weight.was) ∙ c.plain_weight.ensures)

  room : gap + 1 + 8 ≤ length (text fits)
  room = omega (arith, gap-short (text fits) weight, long fits)

-- and the literal
module _ (c : After-plain_literal) where
  abbrev read : In_ok-weight
  read = (goal.at.After-plain_literal c).In_ok-weight

  said : said_literal c.plain_literal.result ≡ literal_at (behind (text (fits read)))
  said = c.plain_literal.ensures ∙ ap literal_at (literal-part (text (fits read)) (weight read))

module _ (c : In_ok-literal) where
  abbrev lits : After-plain_literal
  lits = (goal.at.In_ok-literal c).After-plain_literal

  abbrev taken : ℕ
  taken = c.in_ok-literal.literal.taken

  lit : LiteralHere (behind (text (fits (read lits)))) c.in_ok-literal.literal.negated c.in_ok-literal.literal.number taken
  lit = literal-here _ _ _ _ (ap said_literal (sym c.in_ok-literal.was) ∙ said lits)

  ends : gap (read lits) + taken + 2 ≤ 16
  ends =
      let w = read lits in
      let f = fits w in
      omega (arith, gap-short (text f) (weight w), long-short (text f) (weight w) _ (long f) (first f) lit)

pub returns-then-s-lt17 : goal.returns-then-s-lt17
returns-then-s-lt17 c = too_short _ c.args.s.now c.if-s-lt17.true

pub returns-then-options-gt1 : goal.returns-then-options-gt1
returns-then-options-gt1 c = first_above _ c.args.s.now (omega (arith, c.if-s-lt17.false)) c.if-options-gt1.true

pub returns-in_err-weight : goal.returns-in_err-weight
returns-in_err-weight c =
    let p = (goal.at.returns-in_err-weight c).Else-options-gt1 in
    rw c.from_residual.ensures (no-weight _ (text p) (long p) (first p) (ap said_weight (sym c.in_err-weight.was) ∙ c.plain_weight.ensures))

pub overflow_add-weight : goal.overflow_add-weight
overflow_add-weight c =
    let p = (goal.at.overflow_add-weight c).In_ok-weight in
    omega (arith, gap-short (text (fits p)) (weight p))

pub slice_bounds-plain_literal-count : goal.slice_bounds-plain_literal-count
slice_bounds-plain_literal-count c = omega (arith, room (goal.at.slice_bounds-plain_literal-count c).In_ok-weight)

pub slice_bounds-plain_literal-start : goal.slice_bounds-plain_literal-start
slice_bounds-plain_literal-start c = omega (arith, room (goal.at.slice_bounds-plain_literal-start c).In_ok-weight)

pub returns-in_err-literal : goal.returns-in_err-literal
returns-in_err-literal c =
    let p = (goal.at.returns-in_err-literal c).After-plain_literal in
    let w = read p in
    let f = fits w in
    rw c.from_residual-in_err-literal.ensures (no-literal (text f) (weight w) _ (long f) (first f) (ap said_literal (sym c.in_err-literal.was) ∙ said p))

pub overflow_add-taken : goal.overflow_add-taken
overflow_add-taken c = omega (arith, ends (goal.at.overflow_add-taken c).In_ok-literal)

pub overflow_add-taken-2 : goal.overflow_add-taken-2
overflow_add-taken-2 c = omega (arith, ends (goal.at.overflow_add-taken-2 c).In_ok-literal)

pub bounds-s-taken : goal.bounds-s-taken
bounds-s-taken c =
    let p = (goal.at.bounds-s-taken c).In_ok-literal in
    omega (arith, ends p, long (fits (read (lits p))))

pub returns-then-s-taken-le32 : goal.returns-then-s-taken-le32
returns-then-s-taken-le32 c =
    let p = (goal.at.returns-then-s-taken-le32 c).In_ok-literal in
    let w = read (lits p) in
    let f = fits w in
    two-blanks (text f) (weight w) _ (long f) (first f) (lit p) c.if-s-taken-le32.true

pub returns : goal.returns
returns c =
    let p = (goal.at.returns c).In_ok-literal in
    let w = read (lits p) in
    let f = fits w in
    plain-found (text f) (weight w) _ (long f) (first f) (lit p) _ refl refl refl refl
    (omega (arith, c.if-s-taken-le32.false))
