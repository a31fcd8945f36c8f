-- `tokens::signed_for` meets its contract: a 0 sets nothing, and any other number has its literal; a number that
-- stopped at the cap says the same. Assumes nothing.
use mathlib.Core.Path.{◌∙◌}
use Rattle.tokens.proofs.Says.{capped-then, capped-signed, signed-some}
use Rattle.tokens.proofs.token.signed_for.Goals as goal

pub returns-in-Some : goal.returns-in-Some
returns-in-Some c =
    c.literal_for.ensures ∙ signed-some c.args.negative _ c.in-Some.size-test.1 ∙ capped-then _ (capped-signed c.args.negative) _ _ c.in-Some.ensures
