-- `weighted_lit_sum` meets its contract: the loop stands at an offset with the terms before it counted and put
-- (`Walking`, proofs/Walking.antt), behind a run of plain terms it still does (proofs/Runs.antt), and behind one term
-- more. The measure is what is left of the text.
use Prim.Native.Nat.{ℕ, ◌+◌, ◌≤◌}
use mathlib.Core.Path.{◌≡◌, sym, ap, ◌∙◌}
use native.Mathlib.Omega.{arith}
use lib.ListN.{length, drop}
use mir.Syntax.{w64}
use mir.Val.{SFits}
use mir.Facts.{to_z-of_z}
use Rattle.std.proofs.Common.{rules, Ok}
use Rattle.std.proofs.lemmas.Result.{err_from_is_err_and}
use Rattle.definitions.specs.Row.{Term, term}
use Rattle.definitions.specs.Text.{term_step}
use Rattle.definitions.specs.Walk.{item}
use Rattle.definitions.proofs.Parts.{part-is}
use Rattle.pieces.specs.Said.{said_next}
use Rattle.sums.proofs.Sums.{term-end-within, term-has-byte}
use Rattle.sums.proofs.Walking.{Walking, walking_start, walking-stop, walking-bad, walking-term}
use Rattle.sums.proofs.Runs.{run_room, walking_run}
use Rattle.sums.proofs.weighted_lit_sum.Goals as goal
use Rattle.sums.proofs.weighted_lit_sum.Goals.{After-next_term, After-walk_plain-run, In-Some}

-- the run has been asked
module _ (c : After-walk_plain-run) where
  abbrev place : ℕ
  place = c.loop-term.at + c.walk_plain-run.result.taken

  passed : Walking c.args.options c.args.s.now c.args.weights.now c.args.literals.now place c.walk_plain-run.result.terms
      c.walk_plain-run.result.size c.walk_plain-run.new.weights c.walk_plain-run.new.literals
  passed = walking_run c.loop-term.invariant c.walk_plain-run.result c.walk_plain-run.ensures

-- the step has been asked
module _ (c : After-next_term) where
  abbrev behind : After-walk_plain-run
  behind = (goal.at.After-next_term c).After-walk_plain-run

  step_is : term_step c.args.options (drop (place behind) c.args.s.now) ≡ said_next c.next_term.result
  step_is = sym (c.next_term.ensures ∙ ap (term_step c.args.options) (part-is c.args.s.now (place behind)))

-- a term stands there
module _ (c : In-Some) where
  abbrev here : After-next_term
  here = (goal.at.In-Some c).After-next_term

  abbrev there : After-walk_plain-run
  there = behind here

  abbrev found : Term
  found = term c.in-Some.term.weight c.in-Some.term.literal.0

  abbrev bytes : ℕ
  bytes = c.in-Some.term.taken

  step-item : term_step c.args.options (drop (place there) c.args.s.now) ≡ item found bytes
  step-item = step_is here ∙ ap said_next (c.in_ok-term.was ∙ ap Ok c.in-Some.is)

  within : place there + bytes ≤ length c.args.s.now
  within = term-end-within _ _ _ _ _ (passed there).summing found bytes step-item

  has-byte : 1 ≤ bytes
  has-byte = term-has-byte _ _ _ _ _ (passed there).summing found bytes step-item

pub loop-term-init : goal.loop-term-init
loop-term-init c = walking_start _ _ _ _

pub slice_bounds-walk_plain-count : goal.slice_bounds-walk_plain-count
slice_bounds-walk_plain-count c = c.loop-term.invariant.summing.stands.within

pub slice_bounds-walk_plain-start : goal.slice_bounds-walk_plain-start
slice_bounds-walk_plain-start c = c.loop-term.invariant.summing.stands.within

pub walk_plain-run-requires : goal.walk_plain-run-requires
walk_plain-run-requires c =
    (run_room c.loop-term.invariant (omega (arith, c.well_formed)), omega (arith, c.loop-term.invariant.summing.sized))

pub overflow_add-at : goal.overflow_add-at
overflow_add-at c = omega (arith, (passed (goal.at.overflow_add-at c).After-walk_plain-run).summing.stands.within, c.well_formed)

pub slice_bounds-next_term-count : goal.slice_bounds-next_term-count
slice_bounds-next_term-count c = (passed (goal.at.slice_bounds-next_term-count c).After-walk_plain-run).summing.stands.within

pub slice_bounds-next_term-start : goal.slice_bounds-next_term-start
slice_bounds-next_term-start c = (passed (goal.at.slice_bounds-next_term-start c).After-walk_plain-run).summing.stands.within

pub returns-in_err-term : goal.returns-in_err-term
returns-in_err-term c =
    let p = err_from_is_err_and c.from_residual.result c.from_residual.ensures.1 in
    let a = (goal.at.returns-in_err-term c).After-next_term in
    rw (p.1, p.2) (walking-bad _ _ _ _ _ _ _ _ _ (passed (behind a)) _ (step_is a ∙ ap said_next c.in_err-term.was))

pub returns-in_default : goal.returns-in_default
returns-in_default c =
    let a = (goal.at.returns-in_default c).After-next_term in
    walking-stop _ _ _ _ _ _ _ _ _ (passed (behind a)) (step_is a ∙ ap said_next (c.in_ok-term.was ∙ ap Ok c.in_default.is))

pub overflow_add-count : goal.overflow_add-count
overflow_add-count c =
    let t = (goal.at.overflow_add-count c).In-Some in
    omega (arith, within t, has-byte t, (passed (there t)).summing.fewer, c.well_formed)

pub overflow_add-at-in-loop-term : goal.overflow_add-at-in-loop-term
overflow_add-at-in-loop-term c = omega (arith, within (goal.at.overflow_add-at-in-loop-term c).In-Some, c.well_formed)

pub loop-term-smaller : goal.loop-term-smaller
loop-term-smaller c =
    let t = (goal.at.loop-term-smaller c).In-Some in
    omega (arith, within t, has-byte t)

pub loop-term-preserved : goal.loop-term-preserved
loop-term-preserved c =
    let t = (goal.at.loop-term-preserved c).In-Some in
    let f : SFits w64 c.in-Some.term.weight = search rules in
    rw (c.add_size-size.ensures, to_z-of_z f)
    (walking-term _ _ _ _ _ _ _ _ _ (passed (there t)) (found t) (bytes t) (step-item t) _ _ (rw (to_z-of_z f) at c.put_term.ensures))
