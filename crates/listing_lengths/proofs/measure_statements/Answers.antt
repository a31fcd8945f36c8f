-- `measure_statements` meets its contract: the loop stands at an offset with what the lines before it have counted and
-- measured (`FileSized`, proofs/FileLengths.antt). The measure is what is left of
-- the file.
use Prim.Native.Nat.{ℕ}
use mathlib.Core.List.{List}
use mathlib.Core.Path.{◌≡◌, ap, sym, ◌∙◌}
use native.Mathlib.Omega.{arith}
use lib.ListN.{drop}
use Rattle.definitions.specs.Text.{statement as whole}
use Rattle.definitions.specs.Walk.{bad, item}
use Rattle.definitions.specs.declared.Options.{Options}
use Rattle.definitions.proofs.Parts.{part-is}
use Rattle.definitions.specs.declared.Entry.{Entry}
use Rattle.statements.specs.Brief.{brief_step}
use Rattle.statements.specs.Met.{statement_met}
use Rattle.statements.specs.Said.{said_statement}
use Rattle.statements.proofs.Briefs.{line-said, end-said, brief-stop, brief-bad}
use Rattle.house_lengths.specs.Lengths.{line_length}
use Rattle.listing_lengths.specs.Measure.{fields_length}
use Rattle.listing_lengths.proofs.FileLengths.{FileSized, file-start, file-stop, bad-fits, file-bad, Moved, file-moved, file-line}
use Rattle.listing_lengths.proofs.measure_statements.Goals as goal
use Rattle.listing_lengths.proofs.measure_statements.Goals.{After-opb_data, After-statement_length-line, At-loop-entry, In-Ok-Some, In-Err, Start}

-- the statement has been read
module _ (c : After-opb_data) where
  abbrev turn : At-loop-entry
  turn = (goal.at.After-opb_data c).At-loop-entry

  abbrev start : Start
  start = (goal.at.After-opb_data c).Start

  abbrev options : Options
  options = start.args.options

  abbrev text : List ℕ
  text = start.args.s.now

  abbrev place : ℕ
  place = turn.loop-entry.at

  abbrev stand : FileSized options text place turn.loop-entry.rows turn.loop-entry.terms turn.loop-entry.lines
  stand = turn.loop-entry.invariant

  read : said_statement c.opb_data.result ≡ brief_step (whole options (drop place text))
  read = c.opb_data.ensures ∙ ap (λ (t : List ℕ). brief_step (whole options t)) (part-is text place)

-- a refusal
module _ (c : In-Err) where
  abbrev at-bad : After-opb_data
  at-bad = (goal.at.In-Err c).After-opb_data

  refusal_is : whole (options at-bad) (drop (place at-bad) (text at-bad)) ≡ bad c.in-Err.refusal
  refusal_is = brief-bad _ _ (sym (ap said_statement c.in-Err.is) ∙ read at-bad)

-- a row
module _ (c : In-Ok-Some) where
  abbrev here : After-opb_data
  here = (goal.at.In-Ok-Some c).After-opb_data

  abbrev entry : Entry
  entry = c.in-Ok-Some.field-0-0.entry

  abbrev bytes : ℕ
  bytes = c.in-Ok-Some.field-0-0.taken

  line-is : item entry bytes ≡ brief_step (whole (options here) (drop (place here) (text here)))
  line-is = sym (line-said _ _ _ c.in-Ok-Some.is c.in-Ok-Some.field-0-is) ∙ read here

  moved : Moved _ _ _ _ _ _ (stand here) entry bytes line-is
  moved = file-moved _ _ _ _ _ _ (stand here) entry bytes line-is

-- its line was measured
module _ (c : After-statement_length-line) where
  abbrev row : In-Ok-Some
  row = (goal.at.After-statement_length-line c).In-Ok-Some

  measured : c.statement_length-line.result ≡ line_length (entry row).kind (entry row).count (entry row).bound
      (fields_length (options (here row)).first (statement_met (options (here row)) (drop (place (here row)) (text (here row)))))
  measured = rw (part-is (text (here row)) (place (here row))) at c.statement_length-line.ensures

pub loop-entry-init : goal.loop-entry-init
loop-entry-init c = file-start _ _

pub slice_bounds-opb_data-count : goal.slice_bounds-opb_data-count
slice_bounds-opb_data-count c = c.loop-entry.invariant.stands.within

pub slice_bounds-opb_data-start : goal.slice_bounds-opb_data-start
slice_bounds-opb_data-start c = c.loop-entry.invariant.stands.within

pub returns-in-Ok-None : goal.returns-in-Ok-None
returns-in-Ok-None c =
    file-stop _ _ _ _ _ _ (stand (goal.at.returns-in-Ok-None c).After-opb_data) (brief-stop _ (sym (end-said _ _ c.in-Ok-None.is c.in-Ok-None.field-0-is) ∙ read (goal.at.returns-in-Ok-None c).After-opb_data))

pub overflow_add-result : goal.overflow_add-result
overflow_add-result c = omega (arith, bad-fits _ _ _ _ _ _ (stand (at-bad (goal.at.overflow_add-result c).In-Err)) _ (refusal_is (goal.at.overflow_add-result c).In-Err), (start (at-bad (goal.at.overflow_add-result c).In-Err)).well_formed)

pub returns-in-Err : goal.returns-in-Err
returns-in-Err c = file-bad _ _ _ _ _ _ (stand (at-bad (goal.at.returns-in-Err c).In-Err)) _ (refusal_is (goal.at.returns-in-Err c).In-Err)

pub slice_bounds-statement_length-count : goal.slice_bounds-statement_length-count
slice_bounds-statement_length-count c = (stand (here c)).stands.within

pub slice_bounds-statement_length-start : goal.slice_bounds-statement_length-start
slice_bounds-statement_length-start c = (stand (here c)).stands.within

pub overflow_add-rows : goal.overflow_add-rows
overflow_add-rows c =
    let d = row (goal.at.overflow_add-rows c).After-statement_length-line in
    omega (arith, (moved d).few-rows, (start (here d)).well_formed)

pub overflow_add-terms : goal.overflow_add-terms
overflow_add-terms c =
    let d = row (goal.at.overflow_add-terms c).After-statement_length-line in
    omega (arith, c.terms_of-terms.ensures, (moved d).few-terms, (start (here d)).well_formed)

pub overflow_add-at : goal.overflow_add-at
overflow_add-at c =
    let d = row (goal.at.overflow_add-at c).After-statement_length-line in
    omega (arith, (moved d).within, (start (here d)).well_formed)

pub loop-entry-smaller : goal.loop-entry-smaller
loop-entry-smaller c =
    let d = row (goal.at.loop-entry-smaller c).After-statement_length-line in
    omega (arith, (moved d).byte, (moved d).within)

pub loop-entry-preserved : goal.loop-entry-preserved
loop-entry-preserved c =
    let d = row (goal.at.loop-entry-preserved c).After-statement_length-line in
    rw c.terms_of-terms.ensures (file-line _ _ _ _ _ _ (stand (here d)) _ _ (line-is d) _ _ (measured (goal.at.loop-entry-preserved c).After-statement_length-line) c.add_needed-lines.ensures)
