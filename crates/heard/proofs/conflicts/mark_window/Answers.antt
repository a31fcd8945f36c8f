-- `heard::conflicts::mark_window` meets its contract: the loop stands at an offset with the marks and the answer so far
-- (`Walk`, proofs/Marking.antt). The measure is what is left of the block. Assumes nothing.
use mathlib.Core.Path.{◌≡◌, sym, ap, ◌∙◌}
use mathlib.Core.List.{List}
use native.Mathlib.Omega.{arith}
use lib.ListN.{length, drop}
use Rattle.std.proofs.Common.{rules}
use Rattle.std.specs.Prelude.{Result, Option, Some, None, Ok}
use Rattle.definitions.specs.Values.{Item, items_from}
use Rattle.definitions.specs.declared.Refusal.{Refusal}
use Rattle.items.specs.Items.{spot_of}
use Rattle.tokens.specs.declared.next.Said.{Said}
use Rattle.settling.proofs.TokenSteps.{step_of, said_next, Ahead, next-step}
use Rattle.heard.proofs.Marking.{walk_start, walk_ends, walk-refuses, walk-nothing, walk-on}
use Rattle.heard.proofs.conflicts.mark_window.Goals as goal
use Rattle.heard.proofs.conflicts.mark_window.Goals.{After-next_token, In-Ok-Some}

-- the next token, as it is met
module _ (c : After-next_token) where
  abbrev items : List Item
  items = items_from (spot_of c.loop-said.opens) c.loop-said.at (drop c.loop-said.at c.args.block.now)

  step : (r : Result (Option Said) Refusal) → c.next_token.result ≡ r → said_next c.args.block.now r ≡ step_of c.args.named items
  step r e =
      sym (ap (said_next c.args.block.now) e)
      ∙ (next-step c.args.named c.args.block.now c.loop-said.opens c.loop-said.at c.next_token.result c.next_token.ensures).0

-- a token
module _ (c : In-Ok-Some) where
  abbrev met : After-next_token
  met = (goal.at.In-Ok-Some c).After-next_token

  taken : said_next c.args.block.now (Ok (Some c.in-Ok-Some.said)) ≡ step_of c.args.named (items met)
  taken = step met _ (rw c.in-Ok-Some.field-0-is at c.in-Ok-Some.is)

  ahead : Ahead (Ok (Some c.in-Ok-Some.said)) c.loop-said.at (length c.args.block.now)
  ahead =
      (next-step c.args.named c.args.block.now c.loop-said.opens c.loop-said.at (Ok (Some c.in-Ok-Some.said))
      (rw c.in-Ok-Some.field-0-is at c.in-Ok-Some.ensures)).1

pub loop-said-init : goal.loop-said-init
loop-said-init c = walk_start _ _ _ _ _ _ _ c.requires.size c.requires.unmarked c.requires.places

pub loop-said-smaller-in-Some : goal.loop-said-smaller-in-Some
loop-said-smaller-in-Some c =
    let a = ahead (goal.at.loop-said-smaller-in-Some c).In-Ok-Some in
    rw c.in-Ok-Some.field-0-is (omega (arith, a.0, a.1, a.2))

pub loop-said-preserved-in-Some : goal.loop-said-preserved-in-Some
loop-said-preserved-in-Some c =
    let l : c.in-Ok-Some.said.literal ≡ Some c.in-Some.literal = rw c.in-Ok-Some.field-0-is at c.in-Some.is in
    let n = rw c.in-Ok-Some.field-0-is at c.note-found.ensures in
    rw c.in-Ok-Some.field-0-is
    (walk-on _ _ _ _ _ _ _ _ _ _ c.loop-said.invariant _ _ _ _ _ _ c.meet-met.ensures.met c.meet-met.ensures.marks n
    (ahead (goal.at.loop-said-preserved-in-Some c).In-Ok-Some).2
    (rw l at (taken (goal.at.loop-said-preserved-in-Some c).In-Ok-Some)))

pub loop-said-smaller : goal.loop-said-smaller
loop-said-smaller c =
    let a = ahead (goal.at.loop-said-smaller c).In-Ok-Some in
    rw c.in-Ok-Some.field-0-is (omega (arith, a.0, a.1, a.2))

pub loop-said-preserved : goal.loop-said-preserved
loop-said-preserved c =
    let l : c.in-Ok-Some.said.literal ≡ None = rw c.in-Ok-Some.field-0-is at c.in_default-literal.is in
    rw c.in-Ok-Some.field-0-is
    (walk-nothing _ _ _ _ _ _ _ _ _ _ c.loop-said.invariant _ _ (ahead (goal.at.loop-said-preserved c).In-Ok-Some).2
    (rw l at (taken (goal.at.loop-said-preserved c).In-Ok-Some)))

pub returns-in_default : goal.returns-in_default
returns-in_default c =
    let n : c.in_default.field-0 ≡ None = search rules in
    walk_ends _ _ _ _ _ _ _ _ _ _ c.loop-said.invariant
    (step (goal.at.returns-in_default c).After-next_token _ (c.in_default.is ∙ ap (λ (o : Option Said). Ok o) n))

pub returns-in_default-2 : goal.returns-in_default-2
returns-in_default-2 c =
    walk-refuses _ _ _ _ _ _ _ _ _ _ c.loop-said.invariant _ _
    (step (goal.at.returns-in_default-2 c).After-next_token _ c.in_default.is)
