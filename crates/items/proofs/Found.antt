-- The answers of `next_item`, by what is found.
use Prim.Native.Nat.{ℕ, ◌-◌}
use mathlib.Core.Path.{◌≡◌, refl, sym, ap, ◌∙◌}
use mathlib.Core.List.{List}
use Rattle.std.specs.Prelude.{Some, None, Ok, Err}
use native.Mathlib.Omega.{arith}
use lib.ListN.{length, take, drop}
use Rattle.definitions.specs.Values.{is_solid}
use Rattle.definitions.proofs.Truths.{never}
use Rattle.items.specs.Items.{Found, nothing, line, word, text_at, end_at, item_by}
use Rattle.items.specs.declared.Token.{Token}
use Rattle.items.specs.declared.Untagged.{Untagged}
use Rattle.items.proofs.Runs.{front-take}

-- ---- what an item that is met was found to be
module _ (block : List ℕ) where
  pub found-end : (f : Found) → Ok None ≡ item_by block f → nothing ≡ f
  found-end nothing e = refl
  found-end (line p) e = never (cc)
  found-end (word p) e = never (cc)

  pub found-line : (f : Found) (u : Untagged) → Err u ≡ item_by block f → line u.0 ≡ f
  found-line nothing u e = never (cc)
  found-line (line p) u e = let z : u.0 ≡ p = cc in ap line z
  found-line (word p) u e = never (cc)

  pub found-token : (f : Found) (t : Token) → Ok (Some t) ≡ item_by block f → (word t.place ≡ f) × (t.end ≡ end_at block t.place)
  found-token nothing t e = never (cc)
  found-token (line p) t e = never (cc)
  found-token (word p) t e =
      let z : t.place ≡ p = cc in
      let y : t.end ≡ end_at block p = cc in
      (ap word z, y ∙ ap (end_at block) (sym z))

-- the part of the block from a token's first byte to its end
pub token-part : (block : List ℕ) (p end : ℕ) → end ≡ end_at block p → take (end - p) (drop p block) ≡ text_at block p
token-part block p end e =
    let k : end - p ≡ length (text_at block p) = omega (arith, e) in
    ap (λ (n : ℕ). take n (drop p block)) k ∙ front-take is_solid (drop p block)
