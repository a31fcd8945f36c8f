-- `count_statements` meets its contract: the loop stands at an offset with the rows and terms before it counted
-- (`Counting`, of the crate statements). The measure is what is left of the file.
use Prim.Native.Nat.{ℕ, ◌+◌, ◌≤◌}
use mathlib.Core.List.{List}
use mathlib.Core.Path.{◌≡◌, ap, sym, ◌∙◌}
use native.Mathlib.Omega.{arith}
use lib.ListN.{length, drop}
use Rattle.definitions.specs.Text.{statement}
use Rattle.definitions.specs.declared.Options.{Options}
use Rattle.definitions.specs.Walk.{bad}
use Rattle.definitions.proofs.Parts.{part-is}
use Rattle.columns.specs.Kinds.{terms_of_kind}
use Rattle.statements.specs.Brief.{brief_step}
use Rattle.statements.specs.Said.{said_statement}
use Rattle.statements.proofs.Briefs.{line-said, end-said, LineIs, brief-stop, brief-bad, brief-item}
use Rattle.statements.proofs.Counts.{Counting, counting-start, counting-stop, counting-bad, counting-line, place-fits}
use Rattle.statements.proofs.Counts.{line-has-byte, line-end-within, line-terms-fewer}
use Rattle.counts.proofs.count_statements.Goals as goal
use Rattle.counts.proofs.count_statements.Goals.{After-opb_data, In-Ok-Some, In-Err}

-- the statement has been read
module _ (c : After-opb_data) where
  abbrev options : Options
  options = c.args.options

  abbrev text : List ℕ
  text = c.args.s.now

  abbrev place : ℕ
  place = c.loop-entry.at

  abbrev stand : Counting options text place c.loop-entry.rows c.loop-entry.terms
  stand = c.loop-entry.invariant

  read : said_statement c.opb_data.result ≡ brief_step (statement options (drop place text))
  read = c.opb_data.ensures ∙ ap (λ (t : List ℕ). brief_step (statement options t)) (part-is text place)

-- a refusal
module _ (c : In-Err) where
  abbrev at-bad : After-opb_data
  at-bad = (goal.at.In-Err c).After-opb_data

  refusal_is : statement (options at-bad) (drop (place at-bad) (text at-bad))
      ≡ bad c.in-Err.refusal
  refusal_is = brief-bad _ _ (sym (ap said_statement c.in-Err.is) ∙ read at-bad)

-- a row
module _ (c : In-Ok-Some) where
  abbrev here : After-opb_data
  here = (goal.at.In-Ok-Some c).After-opb_data

  abbrev terms : ℕ
  terms = terms_of_kind c.in-Ok-Some.field-0-0.entry.kind c.in-Ok-Some.field-0-0.entry.count

  abbrev count : ℕ
  count = c.in-Ok-Some.field-0-0.taken

  line-is : LineIs (statement (options here) (drop (place here) (text here))) terms count
  line-is = brief-item _ _ _ (sym (line-said _ _ _ c.in-Ok-Some.is c.in-Ok-Some.field-0-is) ∙ read here)

  within : place here + count ≤ length (text here)
  within = line-end-within _ _ _ _ _ (stand here) terms count line-is

pub loop-entry-init : goal.loop-entry-init
loop-entry-init c = counting-start _ _

pub slice_bounds-opb_data-count : goal.slice_bounds-opb_data-count
slice_bounds-opb_data-count c = c.loop-entry.invariant.stands.within

pub slice_bounds-opb_data-start : goal.slice_bounds-opb_data-start
slice_bounds-opb_data-start c = c.loop-entry.invariant.stands.within

pub returns-in-Ok-None : goal.returns-in-Ok-None
returns-in-Ok-None c =
    let p = (goal.at.returns-in-Ok-None c).After-opb_data in
    counting-stop _ _ _ _ _ (stand p) (brief-stop _ (sym (end-said _ _ c.in-Ok-None.is c.in-Ok-None.field-0-is) ∙ read p))

pub overflow_add-result : goal.overflow_add-result
overflow_add-result c =
    let p = (goal.at.overflow_add-result c).In-Err in
    omega (arith, place-fits _ _ _ _ _ (stand (at-bad p)) _ (refusal_is p))

pub returns-in-Err : goal.returns-in-Err
returns-in-Err c =
    let p = (goal.at.returns-in-Err c).In-Err in
    counting-bad _ _ _ _ _ (stand (at-bad p)) _ (refusal_is p)

pub overflow_add-rows : goal.overflow_add-rows
overflow_add-rows c = omega (
  arith,
  within c,
  line-has-byte _ _ _ _ _ (stand (here c)) (terms c) (count c) (line-is c),
  (stand (here c)).fewer-rows,
)

pub overflow_add-terms : goal.overflow_add-terms
overflow_add-terms c =
    let p = (goal.at.overflow_add-terms c).In-Ok-Some in
    omega (
      arith,
      c.terms_of-terms.ensures,
      within p,
      line-terms-fewer _ _ _ _ _ (stand (here p)) (terms p) (count p) (line-is p),
      (stand (here p)).fewer-terms,
    )

pub overflow_add-at : goal.overflow_add-at
overflow_add-at c = omega (arith, within (goal.at.overflow_add-at c).In-Ok-Some)

pub loop-entry-smaller : goal.loop-entry-smaller
loop-entry-smaller c =
    let p = (goal.at.loop-entry-smaller c).In-Ok-Some in
    omega (arith, within p, line-has-byte _ _ _ _ _ (stand (here p)) (terms p) (count p) (line-is p))

pub loop-entry-preserved : goal.loop-entry-preserved
loop-entry-preserved c =
    let p = (goal.at.loop-entry-preserved c).In-Ok-Some in
    rw c.terms_of-terms.ensures (counting-line _ _ _ _ _ (stand (here p)) (terms p) (count p) (line-is p))
