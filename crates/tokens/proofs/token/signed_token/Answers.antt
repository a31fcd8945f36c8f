-- `tokens::signed_token` meets its contract: a sign is one byte, and the digits are the rest, or the whole token.
-- Assumes nothing.
use mathlib.Core.Path.{◌≡◌, ap, ◌∙◌}
use mathlib.Core.Bool.{true, false}
use mathlib.Core.Logic.{inl, inr}
use native.Mathlib.Omega.{arith}
use borrow.Author.Tests.{ltb-true}
use lib.ListN.{get_or}
use Rattle.definitions.specs.Table.{and_then}
use Rattle.definitions.specs.Values.{whole_number, signed_for}
use Rattle.definitions.proofs.Parts.{part-is}
use Rattle.tokens.proofs.Says.{signed-minus, signed-plus, signed-plain}
use Rattle.tokens.proofs.token.signed_token.Goals as goal
use Rattle.tokens.proofs.token.signed_token.Goals.{in_default-via-then-s-lt1, in_default-via-else-s-lt1+in_default-1}

pub returns-in-45 : goal.returns-in-45
returns-in-45 c =
    let s = c.args.s.now in
    let e : get_or s 0 0 ≡ 45 = omega arith in
    c.signed_for.ensures ∙ ap (λ t. and_then (whole_number t) (signed_for true)) (part-is s 1)
    ∙ signed-minus s (λ z. omega arith) e

pub returns-in-43 : goal.returns-in-43
returns-in-43 c =
    let s = c.args.s.now in
    let e : get_or s 0 0 ≡ 43 = omega arith in
    c.signed_for-in-43.ensures ∙ ap (λ t. and_then (whole_number t) (signed_for false)) (part-is s 1)
    ∙ signed-plus s (λ z. omega arith) e

pub returns-in_default : goal.returns-in_default
returns-in_default c =
    c.signed_for-in_default.ensures ∙ signed-plain _ (elim c.in_default.branch [ in_default-via-then-s-lt1 w ↦ inl (omega (arith, ltb-true)) | in_default-via-else-s-lt1+in_default-1 w ↦ inr ((λ e. omega arith), (λ e. omega arith)) ])
