-- `settle` meets its contract: what is left of the walk gives the rest of the bits (proofs/TokenSteps.antt). Assumes
-- nothing.
use Prim.Native.Nat.{ℕ}
use mathlib.Core.Path.{◌≡◌, sym, ap, ◌∙◌}
use mathlib.Core.List.{List}
use native.Mathlib.Omega.{arith}
use lib.ListN.{length, drop}
use Rattle.std.proofs.Common.{rules}
use Rattle.std.specs.Prelude.{Result, Option, Some, None, Ok}
use Rattle.definitions.specs.Values.{Item, items_from, valued, marked}
use Rattle.definitions.specs.declared.Refusal.{Refusal}
use Rattle.items.specs.Items.{spot_of}
use Rattle.tokens.specs.declared.next.Said.{Said}
use Rattle.bits.proofs.JoinedLiterals.{length-valued, length_marked}
use Rattle.settling.proofs.TokenSteps.{step_of, said_next, Ahead, next-step, settle-ends, settle-refuses, settle-nothing, settle-says}
use Rattle.settling.proofs.settle.Goals as goal
use Rattle.settling.proofs.settle.Goals.{After-next_token, In-Ok-Some}

-- the next token, as it is met
module _ (c : After-next_token) where
  abbrev items : List Item
  items = items_from (spot_of c.loop-said.opens) c.loop-said.at (drop c.loop-said.at c.args.block.now)

  step : (r : Result (Option Said) Refusal) → c.next_token.result ≡ r → step_of c.args.named items ≡ said_next c.args.block.now r
  step r e =
      sym (next-step c.args.named c.args.block.now c.loop-said.opens c.loop-said.at c.next_token.result c.next_token.ensures).0
      ∙ ap (said_next c.args.block.now) e

-- a token
module _ (c : In-Ok-Some) where
  abbrev met : After-next_token
  met = (goal.at.In-Ok-Some c).After-next_token

  taken : step_of c.args.named (items met) ≡ said_next c.args.block.now (Ok (Some c.in-Ok-Some.said))
  taken = step met _ (rw c.in-Ok-Some.field-0-is at c.in-Ok-Some.is)

  ahead : Ahead (Ok (Some c.in-Ok-Some.said)) c.loop-said.at (length c.args.block.now)
  ahead =
      (next-step c.args.named c.args.block.now c.loop-said.opens c.loop-said.at (Ok (Some c.in-Ok-Some.said))
      (rw c.in-Ok-Some.field-0-is at c.in-Ok-Some.ensures)).1

pub loop-said-smaller-in-Some : goal.loop-said-smaller-in-Some
loop-said-smaller-in-Some c =
    let a = ahead (goal.at.loop-said-smaller-in-Some c).In-Ok-Some in
    rw c.in-Ok-Some.field-0-is (omega (arith, a.0, a.1, a.2))

pub loop-said-preserved-in-Some : goal.loop-said-preserved-in-Some
loop-said-preserved-in-Some c =
    let i = c.loop-said.invariant in
    let l : c.in-Ok-Some.said.literal ≡ Some c.in-Some.literal = rw c.in-Ok-Some.field-0-is at c.in-Some.is in
    let e = (rw l at (taken (goal.at.loop-said-preserved-in-Some c).In-Ok-Some)) in
    rw c.in-Ok-Some.field-0-is (record {
      within = (ahead (goal.at.loop-said-preserved-in-Some c).In-Ok-Some).2;
      values_length = ap length c.make_true.ensures.values ∙ length-valued _ _ ∙ i.values_length;
      known-length = ap length c.make_true.ensures.known ∙ length_marked _ _ ∙ i.known-length;
      values = ap (valued _) c.make_true.ensures.values ∙ sym (settle-says _ _ _ _ _ _ e).0 ∙ i.values;
      known = ap (marked _) c.make_true.ensures.known ∙ sym (settle-says _ _ _ _ _ _ e).1 ∙ i.known;
    })

pub loop-said-smaller : goal.loop-said-smaller
loop-said-smaller c =
    let a = ahead (goal.at.loop-said-smaller c).In-Ok-Some in
    rw c.in-Ok-Some.field-0-is (omega (arith, a.0, a.1, a.2))

pub loop-said-preserved : goal.loop-said-preserved
loop-said-preserved c =
    let i = c.loop-said.invariant in
    let l : c.in-Ok-Some.said.literal ≡ None = rw c.in-Ok-Some.field-0-is at c.in_default-literal.is in
    let e = settle-nothing _ _ c.loop-said.values _ _ (rw l at (taken (goal.at.loop-said-preserved c).In-Ok-Some)) in
    rw c.in-Ok-Some.field-0-is (record {
      within = (ahead (goal.at.loop-said-preserved c).In-Ok-Some).2;
      values_length = i.values_length;
      known-length = i.known-length;
      values = ap (λ (cs : List ℕ). valued cs c.loop-said.values) (sym e) ∙ i.values;
      known = ap (λ (cs : List ℕ). marked cs c.loop-said.known) (sym e) ∙ i.known;
    })

pub returns-in_default : goal.returns-in_default
returns-in_default c =
    let i = c.loop-said.invariant in
    let n : c.in_default.field-0 ≡ None = search rules in
    let e = step (goal.at.returns-in_default c).After-next_token _ (c.in_default.is ∙ ap (λ (o : Option Said). Ok o) n) in
    record { values = sym (settle-ends _ _ _ e).0 ∙ i.values; known = sym (settle-ends _ _ _ e).1 ∙ i.known }

pub returns-in_default-2 : goal.returns-in_default-2
returns-in_default-2 c =
    let i = c.loop-said.invariant in
    let e = step (goal.at.returns-in_default-2 c).After-next_token _ c.in_default.is in
    record { values = sym (settle-refuses _ _ _ _ _ e).0 ∙ i.values; known = sym (settle-refuses _ _ _ _ _ e).1 ∙ i.known }
