-- `items::next_item` meets its contract: what is sought, and the end of a token that is met. Assumes nothing.
use Prim.Native.Nat.{ℕ, ◌+◌}
use mathlib.Core.Path.{◌≡◌, sym, ap, ◌∙◌}
use mathlib.Core.List.{List}
use native.Mathlib.Omega.{arith}
use lib.ListN.{length}
use Rattle.std.specs.Prelude.{Some, Ok}
use Rattle.definitions.specs.Values.{is_solid, front_of}
use Rattle.definitions.proofs.Parts.{part-is}
use Rattle.items.specs.Items.{word, spot_of, found_from, text_at, item_by}
use Rattle.items.proofs.Spots.{TokenMet, token-met}
use Rattle.items.proofs.next_item.Goals as goal
use Rattle.items.proofs.next_item.Goals.{In-Some, After-solid_run}

-- a token is met
module _ (c : In-Some) where
  token-found : word c.in-Some.place ≡ found_from c.args.front c.args.from c.args.block.now
  token-found = rw c.in-Some.is at c.in_ok-place.ensures

  token-here : TokenMet (spot_of c.args.front) c.args.block.now c.args.from c.in-Some.place
  token-here = token-met _ _ _ c.in-Some.place (sym token-found)

-- and its length is known
module _ (c : After-solid_run) where
  long : c.solid_run.result ≡ length (text_at c.args.block.now c.in-Some.place)
  long = c.solid_run.ensures ∙ ap (λ (s : List ℕ). length (front_of is_solid s)) (part-is c.args.block.now c.in-Some.place)

pub slice_bounds-solid_run-count : goal.slice_bounds-solid_run-count
slice_bounds-solid_run-count c = omega (arith, (token-here c).within)

pub slice_bounds-solid_run-start : goal.slice_bounds-solid_run-start
slice_bounds-solid_run-start c = omega (arith, (token-here c).within)

pub overflow_add-end : goal.overflow_add-end
overflow_add-end c = omega (arith, long c, (token-here (goal.at.overflow_add-end c).In-Some).fits)

pub returns : goal.returns
returns c =
    ap (λ (n : ℕ). Ok (Some (record { place = c.in-Some.place; end = c.in-Some.place + n }))) (long c)
    ∙ ap (item_by c.args.block.now) (token-found (goal.at.returns c).In-Some)
