-- `sum_length` meets its contract: the loop stands at an offset with the fields of the terms before it measured
-- (`SumSized`, proofs/SumLengths.antt). The measure is what is left of the text.
use Prim.Native.Nat.{ℕ, ◌+◌, ◌≤◌}
use mathlib.Core.Path.{◌≡◌, sym, ap, ◌∙◌}
use native.Mathlib.Omega.{arith}
use borrow.Author.Rules.{rules}
use lib.ListN.{length, drop}
use mir.Syntax.{w64}
use mir.Val.{SFits}
use mir.Facts.{to_z-of_z}
use Rattle.std.proofs.Common.{None, Ok}
use Rattle.definitions.specs.Row.{Term, term}
use Rattle.definitions.specs.Text.{term_step}
use Rattle.definitions.specs.Walk.{item}
use Rattle.definitions.proofs.Parts.{part-is}
use Rattle.pieces.specs.Said.{said_next}
use Rattle.house_lengths.specs.Lengths.{said_term_length, term_length}
use Rattle.listing_lengths.proofs.SumLengths.{sum-start, sum-stop, sum-bad, term-within, term-byte, term-known, sum-term}
use Rattle.listing_lengths.proofs.statement.sum_length.Goals as goal
use Rattle.listing_lengths.proofs.statement.sum_length.Goals.{After-next_term, After-term_length}

-- the step has been asked
step_is : (c : After-next_term) → term_step c.args.options (drop c.loop-term.at c.args.s.now) ≡ said_next c.next_term.result
step_is c = sym (c.next_term.ensures ∙ ap (term_step c.args.options) (part-is c.args.s.now c.loop-term.at))

-- a term stands there, and its length has been asked
module _ (c : After-term_length) where
  abbrev found : Term
  found = term c.in-Ok-Some.term.weight c.in-Ok-Some.term.literal.0

  abbrev bytes : ℕ
  bytes = c.in-Ok-Some.term.taken

  step-item : term_step c.args.options (drop c.loop-term.at c.args.s.now) ≡ item found bytes
  step-item = step_is (goal.at.After-term_length c).After-next_term ∙ ap said_next (c.in-Ok-Some.is ∙ ap Ok c.in-Ok-Some.field-0-is)

  length-is : said_term_length c.term_length.result ≡ term_length c.args.options.first found
  length-is =
      let f : SFits w64 c.in-Ok-Some.term.weight = search rules in
      rw (to_z-of_z f) at c.term_length.ensures

  within : c.loop-term.at + bytes ≤ length c.args.s.now
  within = term-within _ _ _ _ c.loop-term.invariant found bytes step-item

  has-byte : 1 ≤ bytes
  has-byte = term-byte _ _ _ _ c.loop-term.invariant found bytes step-item

pub loop-term-init : goal.loop-term-init
loop-term-init c = sum-start _ _

pub slice_bounds-next_term-count : goal.slice_bounds-next_term-count
slice_bounds-next_term-count c = c.loop-term.invariant.within

pub slice_bounds-next_term-start : goal.slice_bounds-next_term-start
slice_bounds-next_term-start c = c.loop-term.invariant.within

pub returns-in_default-term_length : goal.returns-in_default-term_length
returns-in_default-term_length c =
    let t = (goal.at.returns-in_default-term_length c).After-term_length in
    term-known _ _ _ _ c.loop-term.invariant (found t) (bytes t) (step-item t)
    (sym (ap said_term_length c.in_default-term_length.is) ∙ length-is t)

pub overflow_add-at : goal.overflow_add-at
overflow_add-at c = omega (arith, within (goal.at.overflow_add-at c).After-term_length, c.well_formed)

pub loop-term-smaller : goal.loop-term-smaller
loop-term-smaller c =
    let t = (goal.at.loop-term-smaller c).After-term_length in
    omega (arith, within t, has-byte t)

pub loop-term-preserved : goal.loop-term-preserved
loop-term-preserved c =
    let t = (goal.at.loop-term-preserved c).After-term_length in
    sum-term _ _ _ _ c.loop-term.invariant (found t) (bytes t) (step-item t) _ _
    (sym (ap said_term_length c.in-Some.is) ∙ length-is t) c.add_needed-total.ensures

pub returns-in_default : goal.returns-in_default
returns-in_default c =
    let e : c.in_default.field-0 ≡ None = search rules in
    sum-stop _ _ _ _ c.loop-term.invariant (step_is (goal.at.returns-in_default c).After-next_term ∙ ap said_next (c.in_default.is ∙ ap Ok e))

pub returns-in_default-2 : goal.returns-in_default-2
returns-in_default-2 c =
    sum-bad _ _ _ _ c.loop-term.invariant _ (step_is (goal.at.returns-in_default-2 c).After-next_term ∙ ap said_next c.in_default.is)
