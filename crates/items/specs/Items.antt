-- What is met next in a block, and what the answers of src/lib.rt say of it.
use Rattle.std.specs.Prelude.{ℕ, ◌+◌, Bool, true, false, List, [], ◌∷◌, length, drop, Option, Some, None, Result, Ok, Err}
use Rattle.definitions.specs.Values.{is_solid, front_of, Item, untagged, token, Spot, front, between, items_from}
use Rattle.items.specs.declared.Untagged.{Untagged}
use Rattle.items.specs.declared.Token.{Token}

abbrev pub spot_of : Bool → Spot
spot_of true = front
spot_of false = between

-- ---- the next item: nothing more, a line without `v`, or a token, with its offset
pub data Found : Type 0 where
  nothing : Found
  line word : ℕ → Found

abbrev pub sought_of : List Item → Found
sought_of [] = nothing
sought_of (untagged p ∷ is) = line p
sought_of (token p s ∷ is) = word p

-- from the offset on, which is at a line's front or not
abbrev pub found_from : Bool → ℕ → List ℕ → Found
found_from opens from block = sought_of (items_from (spot_of opens) from (drop from block))

abbrev pub said_sought : Result (Option ℕ) Untagged → Found
said_sought (Ok None) = nothing
said_sought (Ok (Some p)) = word p
said_sought (Err e) = line e.0

-- ---- the same with a token's end

-- the bytes of the token at place
abbrev pub text_at : List ℕ → ℕ → List ℕ
text_at block place = front_of is_solid (drop place block)

-- the offset behind it
abbrev pub end_at : List ℕ → ℕ → ℕ
end_at block place = place + length (text_at block place)

-- behind a token no line begins before its LF: the items from its end on
abbrev pub on_from : List ℕ → ℕ → List Item
on_from block end = items_from between end (drop end block)

abbrev pub item_by : List ℕ → Found → Result (Option Token) Untagged
item_by block nothing = Ok None
item_by block (line p) = Err (record { 0 = p })
item_by block (word p) = Ok (Some (record { place = p; end = end_at block p }))
