-- `fill_file` meets its contract: what is filled so far is the invariant (proofs/FillLines.antt), and each statement
-- adds its line and its terms.
use Prim.Native.Nat.{ℕ, ◌≤◌}
use mathlib.Core.Path.{◌≡◌, sym}
use mathlib.Core.List.{List}
use native.Mathlib.Omega.{arith}
use borrow.Author.Rules.{rules, sfits_of}
use mir.Syntax.{w64}
use mir.Val.{SFits}
use mir.Facts.{to_z-of_z}
use lib.ListN.{length, drop}
use Rattle.definitions.specs.Table.{Table, table}
use Rattle.definitions.specs.Walk.{item}
use Rattle.definitions.proofs.Parts.{part-is}
use Rattle.definitions.specs.declared.Entry.{Entry}
use Rattle.statements.proofs.Briefs.{line-said}
use Rattle.statements.specs.Said.{said_statement}
use Rattle.statements.specs.Walked.{StatementWalked}
use Rattle.definitions.proofs.Columns.{rest_of, Lengths}
use Rattle.reader.proofs.FillLines.{Good, good_of, fills-start, fills-lengths, fills-heavy, fills-known, fills-done}
use Rattle.reader.proofs.FillLines.{LineMoves, fills-moves, fills-more}
use Rattle.reader.proofs.fill.fill_file.Goals as goal
use Rattle.reader.proofs.fill.fill_file.Goals.{After-walk_statement, At-loop-entry, In-Ok-Some, Start}

-- a turn's beginning
module _ (c : At-loop-entry) where
  abbrev start : Start
  start = (goal.at.At-loop-entry c).Start

  abbrev text : List ℕ
  text = start.args.s.now

  abbrev place : ℕ
  place = c.loop-entry.at

  abbrev lent : Table
  lent =
      table start.args.kinds.now start.args.firsts.now start.args.counts.now start.args.bounds.now
      start.args.weights.now
      start.args.literals.now

  good : Good start.args.options text lent
  good = good_of start.args.options text lent start.requires.given start.requires.reads

  abbrev filled_so : Table
  filled_so = table c.loop-entry.kinds c.loop-entry.firsts c.loop-entry.counts c.loop-entry.bounds
      c.loop-entry.weights c.loop-entry.literals

  lengths : Lengths filled_so lent
  lengths = fills-lengths _ _ _ good _ _ _ _ c.loop-entry.invariant

  heavy : c.loop-entry.term ≤ length lent.weights
  heavy = fills-heavy _ _ _ good _ _ _ _ c.loop-entry.invariant

  known : c.loop-entry.term ≤ length lent.literals
  known = fills-known _ _ _ good _ _ _ _ c.loop-entry.invariant

-- the statement there has filled its terms
module _ (c : After-walk_statement) where
  abbrev turn : At-loop-entry
  turn = (goal.at.After-walk_statement c).At-loop-entry

  left : StatementWalked (start turn).args.options (drop (place turn) (text turn))
      (drop turn.loop-entry.term turn.loop-entry.weights)
      (drop turn.loop-entry.term turn.loop-entry.literals)
      c.walk_statement.result c.walk_statement.new.weights c.walk_statement.new.literals
  left =
      rw (
        part-is (text turn) (place turn),
        rest_of turn.loop-entry.weights turn.loop-entry.term,
        rest_of turn.loop-entry.literals turn.loop-entry.term,
      ) at c.walk_statement.ensures

-- it was a line
module _ (c : In-Ok-Some) where
  abbrev here : After-walk_statement
  here = (goal.at.In-Ok-Some c).After-walk_statement

  abbrev found : Entry
  found = c.in-Ok-Some.field-0-0.entry

  abbrev bytes : ℕ
  bytes = c.in-Ok-Some.field-0-0.taken

  said : item found bytes ≡ said_statement here.walk_statement.result
  said = sym (line-said _ _ _ c.in-Ok-Some.is c.in-Ok-Some.field-0-is)

  moves : LineMoves _ _ _ (good (turn here)) _ _ _ _ (turn here).loop-entry.invariant here.walk_statement.result _ _
      (left here) found bytes said
  moves =
      fills-moves _ _ _ (good (turn here)) _ _ _ _ (turn here).loop-entry.invariant here.walk_statement.result _ _
      (left here) found bytes said

pub loop-entry-init : goal.loop-entry-init
loop-entry-init c = fills-start _ _ _

pub offset_bounds-weights-term : goal.offset_bounds-weights-term
offset_bounds-weights-term c =
    let p = (goal.at.offset_bounds-weights-term c).At-loop-entry in
    omega (arith, heavy p, (start p).well_formed)

pub slice_bounds-walk_statement-count-in-loop-entry : goal.slice_bounds-walk_statement-count-in-loop-entry
slice_bounds-walk_statement-count-in-loop-entry c =
    let p = (goal.at.slice_bounds-walk_statement-count-in-loop-entry c).At-loop-entry in
    omega (arith, (lengths p).weights, heavy p)

pub slice_bounds-walk_statement-start-in-loop-entry : goal.slice_bounds-walk_statement-start-in-loop-entry
slice_bounds-walk_statement-start-in-loop-entry c =
    let p = (goal.at.slice_bounds-walk_statement-start-in-loop-entry c).At-loop-entry in
    omega (arith, (lengths p).weights, heavy p)

pub offset_bounds-literals-term : goal.offset_bounds-literals-term
offset_bounds-literals-term c =
    let p = (goal.at.offset_bounds-literals-term c).At-loop-entry in
    omega (arith, known p, (start p).well_formed)

pub slice_bounds-walk_statement-count-in-loop-entry-2 : goal.slice_bounds-walk_statement-count-in-loop-entry-2
slice_bounds-walk_statement-count-in-loop-entry-2 c =
    let p = (goal.at.slice_bounds-walk_statement-count-in-loop-entry-2 c).At-loop-entry in
    omega (arith, (lengths p).literals, known p)

pub slice_bounds-walk_statement-start-in-loop-entry-2 : goal.slice_bounds-walk_statement-start-in-loop-entry-2
slice_bounds-walk_statement-start-in-loop-entry-2 c =
    let p = (goal.at.slice_bounds-walk_statement-start-in-loop-entry-2 c).At-loop-entry in
    omega (arith, (lengths p).literals, known p)

pub returns-in_default : goal.returns-in_default
returns-in_default c =
    let p = (goal.at.returns-in_default c).After-walk_statement in
    fills-done _ _ _ (good (turn p)) _ _ _ _ (turn p).loop-entry.invariant c.walk_statement.result _ _ (left p)
    (λ x p. (cc))

pub returns-in_default-2 : goal.returns-in_default-2
returns-in_default-2 c =
    let p = (goal.at.returns-in_default-2 c).After-walk_statement in
    fills-done _ _ _ (good (turn p)) _ _ _ _ (turn p).loop-entry.invariant c.walk_statement.result _ _ (left p)
    (λ x p. (cc))

pub bounds-kinds-row : goal.bounds-kinds-row
bounds-kinds-row c = let m = moves c in let l = lengths (turn (here c)) in omega arith

pub overflow_add-at : goal.overflow_add-at
overflow_add-at c =
    let p = (goal.at.overflow_add-at c).In-Ok-Some in
    let m = moves p in omega (arith, (start (turn (here p))).well_formed)

pub offset_bounds-firsts-row : goal.offset_bounds-firsts-row
offset_bounds-firsts-row c =
    let p = (goal.at.offset_bounds-firsts-row c).In-Ok-Some in
    let m = moves p in omega (arith, (start (turn (here p))).well_formed)

pub bounds-firsts-row : goal.bounds-firsts-row
bounds-firsts-row c =
    let p = (goal.at.bounds-firsts-row c).In-Ok-Some in
    let m = moves p in let l = lengths (turn (here p)) in omega arith

pub offset_bounds-counts-row : goal.offset_bounds-counts-row
offset_bounds-counts-row c =
    let p = (goal.at.offset_bounds-counts-row c).In-Ok-Some in
    let m = moves p in omega (arith, (start (turn (here p))).well_formed)

pub bounds-counts-row : goal.bounds-counts-row
bounds-counts-row c =
    let p = (goal.at.bounds-counts-row c).In-Ok-Some in
    let m = moves p in let l = lengths (turn (here p)) in omega arith

pub offset_bounds-bounds-row : goal.offset_bounds-bounds-row
offset_bounds-bounds-row c =
    let p = (goal.at.offset_bounds-bounds-row c).In-Ok-Some in
    let m = moves p in omega (arith, (start (turn (here p))).well_formed)

pub bounds-bounds-row : goal.bounds-bounds-row
bounds-bounds-row c =
    let p = (goal.at.bounds-bounds-row c).In-Ok-Some in
    let m = moves p in let l = lengths (turn (here p)) in omega arith

pub overflow_add-row : goal.overflow_add-row
overflow_add-row c =
    let p = (goal.at.overflow_add-row c).In-Ok-Some in
    let m = moves p in omega (arith, (start (turn (here p))).well_formed)

pub overflow_add-term : goal.overflow_add-term
overflow_add-term c =
    let p = (goal.at.overflow_add-term c).In-Ok-Some in
    let m = moves p in omega (arith, c.terms_of-term.ensures, (start (turn (here p))).well_formed)

pub overflow_add-at-in-Ok-Some : goal.overflow_add-at-in-Ok-Some
overflow_add-at-in-Ok-Some c =
    let p = (goal.at.overflow_add-at-in-Ok-Some c).In-Ok-Some in
    let m = moves p in omega (arith, (start (turn (here p))).well_formed)

pub loop-entry-smaller : goal.loop-entry-smaller
loop-entry-smaller c = let m = moves (goal.at.loop-entry-smaller c).In-Ok-Some in omega arith

pub loop-entry-preserved : goal.loop-entry-preserved
loop-entry-preserved c =
    let p = (goal.at.loop-entry-preserved c).In-Ok-Some in
    let f = here p in
    let q : SFits w64 (found p).bound = sfits_of (search rules) in
    rw (to_z-of_z q, c.first_of.ensures, c.terms_of-term.ensures)
    (fills-more _ _ _ (good (turn f)) _ _ _ _ (turn f).loop-entry.invariant f.walk_statement.result _ _ (left f)
    (found p) (bytes p) (said p))
