-- `tokens::x_token` meets its contract: a `~` or `-` is one byte and negates the variable behind it, else the variable
-- stands at the front. Assumes nothing.
use mathlib.Core.Path.{ap, ◌∙◌}
use mathlib.Core.Bool.{true}
use mathlib.Core.Logic.{inl, inr}
use native.Mathlib.Omega.{arith}
use Rattle.std.proofs.Common.{rules}
use Rattle.std.proofs.lemmas.Bool.Decides.{nat_tests}
use Rattle.definitions.specs.Values.{named_variable}
use Rattle.definitions.proofs.Parts.{part-is}
use Rattle.tokens.proofs.Says.{x-negated, x-plain}
use Rattle.tokens.proofs.token.x_token.Goals as goal
use Rattle.tokens.proofs.token.x_token.Goals.{in_default-via-then-s-lt1, in_default-via-else-s-lt1+in_default-1}

pub returns-in-126 : goal.returns-in-126
returns-in-126 c =
    let s = c.args.s.now in
    c.named_variable.ensures ∙ ap (named_variable true) (part-is s 1) ∙ x-negated s (λ z. omega arith) (search rules)

pub returns-in_default : goal.returns-in_default
returns-in_default c =
    c.named_variable-in_default.ensures ∙ x-plain _ (elim c.in_default.branch [ in_default-via-then-s-lt1 w ↦ inl (grind (arith, nat_tests)) | in_default-via-else-s-lt1+in_default-1 w ↦ inr (search rules) ])
