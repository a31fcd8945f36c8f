-- `survey` meets its contract: what is left of the walk gives the whole answer (proofs/Surveying.antt). Assumes
-- nothing.
use mathlib.Core.Path.{◌≡◌, refl, sym, ap, ◌∙◌}
use mathlib.Core.List.{List}
use native.Mathlib.Omega.{arith}
use lib.ListN.{length, drop}
use Rattle.std.specs.Prelude.{Result, Option, Some, Ok}
use Rattle.std.proofs.lemmas.Result.{err_from_is_err_and}
use Rattle.definitions.specs.Values.{Item, items_from}
use Rattle.definitions.specs.declared.Refusal.{Refusal}
use Rattle.items.specs.Items.{spot_of}
use Rattle.tokens.specs.declared.next.Said.{Said}
use Rattle.settling.proofs.TokenSteps.{step_of, said_next, Ahead, next-step}
use Rattle.heard.proofs.Surveying.{survey-ends, survey-refuses, survey-nothing, survey-says}
use Rattle.heard.proofs.survey.survey.Goals as goal
use Rattle.heard.proofs.survey.survey.Goals.{After-next_token, In-Some}

-- the next token, as it is met
module _ (c : After-next_token) where
  abbrev items : List Item
  items = items_from (spot_of c.loop-said.opens) c.loop-said.at (drop c.loop-said.at c.args.block.now)

  step : (r : Result (Option Said) Refusal) → c.next_token.result ≡ r → step_of c.args.named items ≡ said_next c.args.block.now r
  step r e =
      sym (next-step c.args.named c.args.block.now c.loop-said.opens c.loop-said.at c.next_token.result c.next_token.ensures).0
      ∙ ap (said_next c.args.block.now) e

-- a token
module _ (c : In-Some) where
  abbrev met : After-next_token
  met = (goal.at.In-Some c).After-next_token

  taken : step_of c.args.named (items met) ≡ said_next c.args.block.now (Ok (Some c.in-Some.said))
  taken = step met _ (rw c.in-Some.is at c.in_ok-said.was)

  ahead : Ahead (Ok (Some c.in-Some.said)) c.loop-said.at (length c.args.block.now)
  ahead =
      (next-step c.args.named c.args.block.now c.loop-said.opens c.loop-said.at (Ok (Some c.in-Some.said))
      (rw c.in-Some.is at c.in_ok-said.ensures)).1

pub loop-said-init : goal.loop-said-init
loop-said-init c = record { within = omega arith; rest = refl }

pub loop-said-smaller : goal.loop-said-smaller
loop-said-smaller c = let a = ahead (goal.at.loop-said-smaller c).In-Some in omega (arith, a.0, a.1, a.2)

pub loop-said-smaller-in-Some-literal : goal.loop-said-smaller-in-Some-literal
loop-said-smaller-in-Some-literal c =
    let a = ahead (goal.at.loop-said-smaller-in-Some-literal c).In-Some in omega (arith, a.0, a.1, a.2)

pub loop-said-preserved : goal.loop-said-preserved
loop-said-preserved c =
    let e = (rw c.in_default-literal.is at (taken (goal.at.loop-said-preserved c).In-Some)) in
    record {
      within = (ahead (goal.at.loop-said-preserved c).In-Some).2;
      rest = sym (survey-nothing _ _ _ _ _ e) ∙ c.loop-said.invariant.rest;
    }

pub loop-said-preserved-in-Some-literal : goal.loop-said-preserved-in-Some-literal
loop-said-preserved-in-Some-literal c =
    let e = (rw c.in-Some-literal.is at (taken (goal.at.loop-said-preserved-in-Some-literal c).In-Some)) in
    record {
      within = (ahead (goal.at.loop-said-preserved-in-Some-literal c).In-Some).2;
      rest = rw c.past-length.ensures (sym (survey-says _ _ _ _ _ _ e) ∙ c.loop-said.invariant.rest);
    }

pub returns-in_err-said : goal.returns-in_err-said
returns-in_err-said c =
    let p = err_from_is_err_and c.from_residual.result c.from_residual.ensures.1 in
    rw (p.1, p.2)
    (survey-refuses _ _ _ _ _ (step (goal.at.returns-in_err-said c).After-next_token _ c.in_err-said.was) ∙ c.loop-said.invariant.rest)

pub returns : goal.returns
returns c =
    survey-ends _ _ _ (step (goal.at.returns c).After-next_token _ (rw c.in_default.is at c.in_ok-said.was)) ∙ c.loop-said.invariant.rest
