-- `tokens::next_token` meets its contract: the next item, and what the token that is met says. Assumes nothing.
use Prim.Native.Nat.{◌≤◌}
use mathlib.Core.Path.{◌≡◌, sym}
use native.Mathlib.Omega.{arith}
use lib.ListN.{length}
use Rattle.std.specs.Prelude.{Some, Ok}
use Rattle.items.specs.Items.{Found, found_from, item_by}
use Rattle.items.proofs.Spots.{token-met}
use Rattle.items.proofs.Found.{found-token}
use Rattle.tokens.proofs.Found.{step-token}
use Rattle.tokens.proofs.next.next_token.Goals as goal
use Rattle.tokens.proofs.next.next_token.Goals.{In-Ok-Some}

-- a token is met
module _ (c : In-Ok-Some) where
  abbrev first : Found
  first = found_from c.args.front c.args.from c.args.block.now

  is : Ok (Some c.in-Ok-Some.token) ≡ item_by c.args.block.now first
  is = rw c.in-Ok-Some.field-0-is at c.in-Ok-Some.ensures

  ordered : (c.in-Ok-Some.token.place ≤ c.in-Ok-Some.token.end) × (c.in-Ok-Some.token.end ≤ length c.args.block.now)
  ordered =
      let f = found-token c.args.block.now first c.in-Ok-Some.token is in
      let m = token-met _ _ _ c.in-Ok-Some.token.place (sym f.0) in
      (omega (arith, f.1), omega (arith, f.1, m.fits))

pub slice_bounds-token_says-count : goal.slice_bounds-token_says-count
slice_bounds-token_says-count c = omega (arith, (ordered (goal.at.slice_bounds-token_says-count c).In-Ok-Some).0)

pub slice_bounds-token_says-start : goal.slice_bounds-token_says-start
slice_bounds-token_says-start c = omega (arith, (ordered (goal.at.slice_bounds-token_says-start c).In-Ok-Some).0)

pub slice_bounds-token_says-end : goal.slice_bounds-token_says-end
slice_bounds-token_says-end c = omega (arith, (ordered (goal.at.slice_bounds-token_says-end c).In-Ok-Some).1)

pub returns-in-Ok-Some : goal.returns-in-Ok-Some
returns-in-Ok-Some c =
    step-token _ _ _ c.in-Ok-Some.token (is (goal.at.returns-in-Ok-Some c).In-Ok-Some) c.token_says.result c.met.result c.token_says.ensures c.met.ensures
