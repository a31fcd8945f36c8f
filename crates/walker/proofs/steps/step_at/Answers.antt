-- `step_at` meets its contract: a file above the limit, an offset past the end, and what `opb_data` answers at the
-- offset (proofs/StepAnswers.antt).
use Prim.Native.Nat.{ℕ, ◌≤◌}
use mathlib.Core.List.{List}
use mathlib.Core.Path.{◌≡◌, ap, sym, ◌∙◌}
use native.Mathlib.Omega.{arith}
use lib.ListN.{length, drop}
use Rattle.definitions.specs.declared.Refusal.{Refusal}
use Rattle.definitions.specs.Limits.{file_limit}
use Rattle.definitions.specs.Text.{statement}
use Rattle.definitions.specs.Walk.{bad, item}
use Rattle.definitions.specs.declared.Entry.{Entry}
use Rattle.definitions.specs.declared.Options.{Options}
use Rattle.definitions.proofs.Parts.{part-is}
use Rattle.statements.specs.Brief.{brief_step}
use Rattle.statements.specs.Said.{said_statement}
use Rattle.statements.proofs.Briefs.{line-said, end-said}
use Rattle.walker.proofs.StepAnswers.{step-long, step_past, step_end, refusal-fits, step-refused, first_fits, next_fits, step_line}
use Rattle.walker.proofs.steps.step_at.Goals as goal
use Rattle.walker.proofs.steps.step_at.Goals.{After-opb_data, In-Ok-Some, In-Err, Start}

-- the statement has been read
module _ (c : After-opb_data) where
  abbrev start : Start
  start = (goal.at.After-opb_data c).Start

  abbrev options : Options
  options = start.args.options

  abbrev text : List ℕ
  text = start.args.file.now

  abbrev place : ℕ
  place = start.args.at

  short : length text ≤ file_limit
  short = c.if-file-gt-FILE_LIMIT.false

  within : place ≤ length text
  within = c.if-file-at.false

  read : said_statement c.opb_data.result ≡ brief_step (statement options (drop place text))
  read = c.opb_data.ensures ∙ ap (λ (t : List ℕ). brief_step (statement options t)) (part-is text place)

-- a refusal
module _ (c : In-Err) where
  abbrev at-bad : After-opb_data
  at-bad = (goal.at.In-Err c).After-opb_data

  abbrev refusal : Refusal
  refusal = c.in-Err.refusal

  refusal_is : bad refusal ≡ brief_step (statement (options at-bad) (drop (place at-bad) (text at-bad)))
  refusal_is = sym (ap said_statement c.in-Err.is) ∙ read at-bad

-- a row
module _ (c : In-Ok-Some) where
  abbrev here : After-opb_data
  here = (goal.at.In-Ok-Some c).After-opb_data

  abbrev found : Entry
  found = c.in-Ok-Some.field-0-0.entry

  abbrev bytes : ℕ
  bytes = c.in-Ok-Some.field-0-0.taken

  line-is : item found bytes ≡ brief_step (statement (options here) (drop (place here) (text here)))
  line-is = sym (line-said _ _ _ c.in-Ok-Some.is c.in-Ok-Some.field-0-is) ∙ read here

pub returns-then-file-gt-FILE_LIMIT : goal.returns-then-file-gt-FILE_LIMIT
returns-then-file-gt-FILE_LIMIT c = step-long _ _ _ c.if-file-gt-FILE_LIMIT.true

pub returns-then-file-at : goal.returns-then-file-at
returns-then-file-at c = step_past _ _ _ c.if-file-gt-FILE_LIMIT.false c.if-file-at.true

pub overflow_add-result-in-Err : goal.overflow_add-result-in-Err
overflow_add-result-in-Err c =
    let p = (goal.at.overflow_add-result-in-Err c).In-Err in
    let d = at-bad p in
    omega (arith, refusal-fits (options d) (text d) (place d) (short d) (within d) (refusal p) (refusal_is p))

pub overflow_add-at : goal.overflow_add-at
overflow_add-at c =
    let p = (goal.at.overflow_add-at c).In-Ok-Some in
    let d = here p in
    omega (arith, first_fits (options d) (text d) (place d) (short d) (within d) _ _ (line-is p))

pub overflow_add-result : goal.overflow_add-result
overflow_add-result c =
    let p = (goal.at.overflow_add-result c).In-Ok-Some in
    let d = here p in
    omega (arith, next_fits (options d) (text d) (place d) (short d) (within d) _ _ (line-is p))

pub returns-in-Ok-None : goal.returns-in-Ok-None
returns-in-Ok-None c =
    let p = (goal.at.returns-in-Ok-None c).After-opb_data in
    step_end (options p) (text p) (place p) (short p) (sym (end-said _ _ c.in-Ok-None.is c.in-Ok-None.field-0-is) ∙ read p)

pub returns-in-Err : goal.returns-in-Err
returns-in-Err c =
    let p = (goal.at.returns-in-Err c).In-Err in
    let d = at-bad p in
    step-refused (options d) (text d) (place d) (short d) (within d) (refusal p) (refusal_is p)

pub returns-in-Ok-Some : goal.returns-in-Ok-Some
returns-in-Ok-Some c =
    let p = (goal.at.returns-in-Ok-Some c).In-Ok-Some in
    let d = here p in
    rw c.first_of.ensures (step_line (options d) (text d) (place d) (short d) (within d) (found p) (bytes p)
    (line-is p))
