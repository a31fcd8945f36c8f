-- `count_steps` meets its contract: the loop stands at an offset with the rows and terms before it counted
-- (`Counting`). Each line takes the offset forward (proofs/Tallies.antt), so that
-- what is left of the file falls.
use Prim.Native.Nat.{ℕ, ◌+◌}
use mathlib.Core.List.{List}
use mathlib.Core.Path.{◌≡◌, ap, sym, ◌∙◌}
use Rattle.std.proofs.lemmas.Result.{err_from_is_err_and}
use native.Mathlib.Omega.{arith}
use Rattle.definitions.specs.Stepping.{stepped, step_at}
use Rattle.definitions.specs.declared.Entry.{Entry}
use Rattle.definitions.specs.declared.Options.{Options}
use Rattle.columns.specs.Kinds.{terms_of_kind}
use Rattle.statements.proofs.Counts.{Counting, counting-start}
use Rattle.walker.proofs.StepAnswers.{line-stepped, end-stepped}
use Rattle.walker.specs.Said.{said_stepped, brief_stepped}
use Rattle.tallies.proofs.Tallies.{tally-end, tally-refused, Onward, tally-onward, tally-line}
use Rattle.tallies.proofs.count_steps.Goals as goal
use Rattle.tallies.proofs.count_steps.Goals.{After-step_at, At-loop-entry, In-Some}

-- the step was taken
module _ (c : After-step_at) where
  abbrev turn : At-loop-entry
  turn = (goal.at.After-step_at c).At-loop-entry

  abbrev options : Options
  options = turn.args.options

  abbrev text : List ℕ
  text = turn.args.s.now

-- a line was found
module _ (c : In-Some) where
  abbrev here : After-step_at
  here = (goal.at.In-Some c).After-step_at

  abbrev found : Entry
  found = c.in-Some.field-0.entry

  abbrev next : ℕ
  next = c.in-Some.field-0.next

  line-is : stepped found next ≡ brief_stepped (step_at (options here) (text here) (turn here).loop-entry.at)
  line-is = sym (line-stepped _ _ _ c.in_ok-entry.was c.in-Some.is) ∙ here.step_at.ensures

  onward : Onward (options here) (text here) (turn here).loop-entry.at (turn here).loop-entry.rows
      (turn here).loop-entry.terms
      (turn here).loop-entry.invariant found next line-is
  onward = tally-onward _ _ _ _ _ (turn here).loop-entry.invariant found next line-is

  moved : Counting (options here) (text here) next ((turn here).loop-entry.rows + 1)
      ((turn here).loop-entry.terms + terms_of_kind found.kind found.count)
  moved = tally-line _ _ _ _ _ (turn here).loop-entry.invariant found next line-is

pub loop-entry-init : goal.loop-entry-init
loop-entry-init c = counting-start _ _

pub returns-in_err-entry : goal.returns-in_err-entry
returns-in_err-entry c =
    let p = (goal.at.returns-in_err-entry c).After-step_at in
    let e = err_from_is_err_and c.from_residual.result c.from_residual.ensures.1 in
    rw (e.1, e.2)
    (tally-refused (options p) (text p) _ _ _ (turn p).loop-entry.invariant _
    (sym (ap said_stepped c.in_err-entry.was) ∙ c.step_at.ensures))

pub returns : goal.returns
returns c =
    let p = (goal.at.returns c).After-step_at in
    tally-end (options p) (text p) _ _ _ (turn p).loop-entry.invariant
    (sym (end-stepped _ _ c.in_ok-entry.was c.in_default.is) ∙ c.step_at.ensures)

pub overflow_add-terms : goal.overflow_add-terms
overflow_add-terms c =
    let p = (goal.at.overflow_add-terms c).In-Some in
    omega (arith, c.terms_of-terms.ensures, (onward p).few-terms, (onward p).within)

pub loop-entry-smaller : goal.loop-entry-smaller
loop-entry-smaller c =
    let p = (goal.at.loop-entry-smaller c).In-Some in
    omega (arith, (onward p).rises, (onward p).within)

pub loop-entry-preserved : goal.loop-entry-preserved
loop-entry-preserved c = rw c.terms_of-terms.ensures (moved (goal.at.loop-entry-preserved c).In-Some)
