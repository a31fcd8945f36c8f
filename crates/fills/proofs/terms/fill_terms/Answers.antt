-- `fill_terms` meets its contract: the end, the statement's own refusal, 10, and the terms (proofs/FillTerms.antt).
use Prim.Native.Nat.{ℕ}
use mathlib.Core.List.{List}
use mathlib.Core.Path.{◌≡◌, ap, sym, subst, ◌∙◌}
use native.Mathlib.Omega.{arith}
use borrow.Author.Rules.{rules}
use lib.IntN.{ℤ}
use Rattle.definitions.specs.Walk.{Step}
use Rattle.definitions.specs.Row.{Line}
use Rattle.definitions.specs.Text.{statement}
use Rattle.definitions.specs.Stepping.{columns_room}
use Rattle.statements.specs.Said.{said_statement}
use Rattle.statements.proofs.Briefs.{line-said, end-said, LineIs, brief-item}
use Rattle.statements.proofs.MetTerms.{statement-met}
use Rattle.fills.proofs.FillTerms.{fill_end, fill-refused, fill-beyond, fill-whole}
use Rattle.fills.proofs.terms.fill_terms.Goals as goal
use Rattle.fills.proofs.terms.fill_terms.Goals.{After-opb_data, After-term_room, After-terms_of-terms, In-Ok-Some, Start}

-- the statement has been read
module _ (c : After-opb_data) where
  abbrev start : Start
  start = (goal.at.After-opb_data c).Start

  abbrev weights : List ℤ
  weights = start.args.weights.now

  abbrev literals : List ℕ
  literals = start.args.literals.now

  abbrev here : Step Line
  here = statement start.args.options start.args.s.now

-- a line, with its terms counted and the room measured
module _ (c : After-term_room) where
  abbrev counted : After-terms_of-terms
  counted = (goal.at.After-term_room c).After-terms_of-terms

  abbrev told : In-Ok-Some
  told = (goal.at.After-terms_of-terms counted).In-Ok-Some

  abbrev begun : After-opb_data
  begun = (goal.at.In-Ok-Some told).After-opb_data

  abbrev terms : ℕ
  terms = counted.terms_of-terms.result

  abbrev taken : ℕ
  taken = told.in-Ok-Some.field-0-0.taken

  line-is : LineIs (here begun) terms taken
  line-is =
      subst (λ (n : ℕ). LineIs (here begun) n taken) (sym counted.terms_of-terms.ensures)
      (brief-item _ _ _ (sym (line-said _ _ _ told.in-Ok-Some.is told.in-Ok-Some.field-0-is) ∙ begun.opb_data.ensures))

  room : c.term_room.result ≡ columns_room (weights begun) (literals begun)
  room = c.term_room.ensures

pub returns-then-term_room-terms : goal.returns-then-term_room-terms
returns-then-term_room-terms c =
    let p = (goal.at.returns-then-term_room-terms c).After-term_room in
    fill-beyond _ _ _ _ _ (line-is p) (omega (arith, room p, c.if-term_room-terms.true)) (search rules)

pub returns-in-Ok-None : goal.returns-in-Ok-None
returns-in-Ok-None c =
    let p = (goal.at.returns-in-Ok-None c).After-opb_data in
    fill_end (here p) _ _ (sym (end-said _ _ c.in-Ok-None.is c.in-Ok-None.field-0-is) ∙ c.opb_data.ensures)

pub returns-in-Err : goal.returns-in-Err
returns-in-Err c =
    let p = (goal.at.returns-in-Err c).After-opb_data in
    fill-refused (here p) _ _ _ (sym (ap said_statement c.in-Err.is) ∙ c.opb_data.ensures)

pub returns-else-term_room-terms : goal.returns-else-term_room-terms
returns-else-term_room-terms c =
    let p = (goal.at.returns-else-term_room-terms c).After-term_room in
    let i = line-is p in
    fill-whole _ _ _ _ _ i (omega (arith, room p, c.if-term_room-terms.false)) _ _ _ (statement-met _ _ _ _ i.is)
    c.walk_statement.ensures.filled
