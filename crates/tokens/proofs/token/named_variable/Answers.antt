-- `tokens::named_variable` meets its contract: an `x` is one byte, and the digits behind it are the rest; a number that
-- stopped at the cap says the same. Assumes nothing.
use mathlib.Core.Path.{◌≡◌, ap, ◌∙◌}
use native.Mathlib.Omega.{arith}
use Prim.Native.Nat.{ℕ, ◌-◌}
use lib.ListN.{length, get_or, take, drop}
use Rattle.definitions.specs.Refusal.{Checked}
use Rattle.definitions.specs.Table.{and_then}
use Rattle.definitions.specs.Values.{whole_number, literal_for, named_variable}
use Rattle.definitions.proofs.Parts.{part-is}
use Rattle.tokens.specs.Said.{capped}
use Rattle.tokens.proofs.Says.{capped-then, capped-literal, named-empty, named_other, named-x}
use Rattle.tokens.proofs.token.named_variable.Goals as goal
use Rattle.tokens.proofs.token.named_variable.Goals.{After-whole_number}

-- what the number behind the `x` says, whether it stopped at the cap or not
answer : (c : After-whole_number) (w : Checked ℕ) → w ≡ capped (whole_number (take (length c.args.s.now - 1) (drop 1 c.args.s.now)))
    → and_then w (literal_for c.args.negative) ≡ named_variable c.args.negative c.args.s.now
answer c w e =
    let s = c.args.s.now in
    let x : get_or s 0 0 ≡ 120 = omega arith in
    capped-then (literal_for c.args.negative) (capped-literal c.args.negative) w (whole_number (drop 1 s))
    (e ∙ ap (λ t. capped (whole_number t)) (part-is s 1))
    ∙ named-x c.args.negative s (λ z. omega arith) x

pub returns-in_default : goal.returns-in_default
returns-in_default c = named-empty _ _ (omega arith)

pub returns-in_default-2 : goal.returns-in_default-2
returns-in_default-2 c = named_other _ _ (λ z. omega arith) (λ z. omega arith)

pub returns-in-None : goal.returns-in-None
returns-in-None c = answer (goal.at.returns-in-None c).After-whole_number _ c.in-None.ensures

pub returns-in-Some : goal.returns-in-Some
returns-in-Some c = c.literal_for.ensures ∙ answer (goal.at.returns-in-Some c).After-whole_number _ c.in-Some.ensures
