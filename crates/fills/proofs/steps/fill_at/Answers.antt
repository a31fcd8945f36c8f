-- `fill_at` meets its contract: the end, the step's refusal, and what `fill_terms` answers and leaves
-- (proofs/FillSteps.antt).
use Prim.Native.Nat.{ℕ, ◌≤◌}
use mathlib.Core.List.{List}
use mathlib.Core.Path.{◌≡◌, ap, sym, subst, ◌∙◌}
use lib.ListN.{length}
use lib.IntN.{ℤ}
use Rattle.definitions.specs.Text.{statement}
use Rattle.definitions.specs.Stepping.{stepped, step_at, stepped_by, terms_by, columns_room}
use Rattle.definitions.specs.declared.Entry.{Entry}
use Rattle.definitions.specs.declared.Options.{Options}
use Rattle.definitions.proofs.Parts.{part-is}
use Rattle.fills.specs.FillsTerms.{FillsTerms}
use Rattle.walker.specs.Said.{said_stepped, brief_stepped}
use Rattle.walker.proofs.StepAnswers.{line-stepped, end-stepped}
use Rattle.fills.proofs.FillSteps.{fill-ended, fill-stopped, fill-within, fill-line}
use Rattle.fills.proofs.steps.fill_at.Goals as goal
use Rattle.fills.proofs.steps.fill_at.Goals.{After-step_at, In-Ok-Some, Start}

-- the step was taken
module _ (c : After-step_at) where
  abbrev start : Start
  start = (goal.at.After-step_at c).Start

  abbrev options : Options
  options = start.args.options

  abbrev text : List ℕ
  text = start.args.file.now

  abbrev place : ℕ
  place = start.args.at

  abbrev weights : List ℤ
  weights = start.args.weights.now

  abbrev literals : List ℕ
  literals = start.args.literals.now

-- a line was found
module _ (c : In-Ok-Some) where
  abbrev here : After-step_at
  here = (goal.at.In-Ok-Some c).After-step_at

  abbrev line : Entry
  line = c.in-Ok-Some.field-0-0.entry

  abbrev behind : ℕ
  behind = c.in-Ok-Some.field-0-0.next

  line-is : stepped line behind ≡ brief_stepped (step_at (options here) (text here) (place here))
  line-is = sym (line-stepped _ _ _ c.in-Ok-Some.is c.in-Ok-Some.field-0-is) ∙ here.step_at.ensures

  within : place here ≤ length (text here)
  within = fill-within (options here) (text here) (place here) (weights here) (literals here) line behind line-is

pub slice_bounds-fill_terms-count : goal.slice_bounds-fill_terms-count
slice_bounds-fill_terms-count c = within c

pub slice_bounds-fill_terms-start : goal.slice_bounds-fill_terms-start
slice_bounds-fill_terms-start c = within c

pub returns-in-Ok-None : goal.returns-in-Ok-None
returns-in-Ok-None c =
    let p = (goal.at.returns-in-Ok-None c).After-step_at in
    fill-ended (options p) (text p) (place p) _ _ (sym (end-stepped _ _ c.in-Ok-None.is c.in-Ok-None.field-0-is) ∙ c.step_at.ensures)

pub returns-in-Err : goal.returns-in-Err
returns-in-Err c =
    let p = (goal.at.returns-in-Err c).After-step_at in
    fill-stopped (options p) (text p) (place p) _ _ _ (sym (ap said_stepped c.in-Err.is) ∙ c.step_at.ensures)

pub returns-in-Ok-Some : goal.returns-in-Ok-Some
returns-in-Ok-Some c =
    let p = (goal.at.returns-in-Ok-Some c).In-Ok-Some in
    let d = here p in
    fill-line (options d) (text d) (place d) (weights d) (literals d) (line p) (behind p) (line-is p) _ _ _
    (subst
    (λ (t : List ℕ). FillsTerms (terms_by (columns_room (weights d) (literals d))
    (stepped_by 0 (statement (options d) t))) (weights d)
    (literals d)
    c.fill_terms.result c.fill_terms.new.weights c.fill_terms.new.literals) (part-is (text d) (place d))
    c.fill_terms.ensures)
