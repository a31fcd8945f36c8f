-- The answers of `check_at` and `check`: what the definition hears of one string, case by case.
use Prim.Native.Nat.{ℕ, ◌+◌, ◌-◌, ◌≤◌, ◌<◌}
use mathlib.Core.Path.{◌≡◌, refl, sym, ap, ◌∙◌}
use mathlib.Core.Bool.{Bool, true, false, not}
use mathlib.Core.List.{List, [], ◌∷◌}
use native.Mathlib.Omega.{arith}
use borrow.Author.Tests.{leb-true, not-true, not-false}
use lib.Dec.{leb}
use lib.ListN.{length, take, drop, length-drop}
use Rattle.std.specs.Prelude.{Option, Result, Err}
use Rattle.definitions.specs.Limits.{index_limit}
use Rattle.definitions.specs.Refusal.{refusal}
use Rattle.definitions.specs.declared.Refusal.{Refusal}
use Rattle.definitions.specs.Table.{refused, accepted}
use Rattle.definitions.specs.Values.{is_solid, form_of, Item, untagged, token, front, items_from, appended, bits_token}
use Rattle.definitions.specs.Values.{any_conflict, hear}
use Rattle.definitions.specs.declared.Form.{Form}
use Rattle.definitions.specs.declared.Form.TheVariants.{ZerosAndOnes}
use Rattle.items.specs.Items.{Found, nothing, line, word, sought_of, text_at, end_at, on_from}
use Rattle.items.specs.declared.Token.{Token}
use Rattle.values.specs.Strings.{behind_of, string_at, checked_at, said_checked, Fitting}
use Rattle.items.proofs.Runs.{front-within}
use Rattle.items.proofs.Spots.{TokenMet, token-met}
use Rattle.items.proofs.Found.{token-part}
use Rattle.values.proofs.Blocks.{none-behind}

-- ---- the string at a place: 5, 22, or what stands behind it
module _ (n : ℕ) (ws ks block : List ℕ) (place : ℕ) where
  at-beyond : leb (n + length (text_at block place)) (index_limit + 1) ≡ false → checked_at n ws ks block place ≡ Err (refusal 5 place)
  unfolding checked_at
  at-beyond e = rw e

  module _ (e : leb (n + length (text_at block place)) (index_limit + 1) ≡ true) where
    at-conflict : any_conflict ws ks [] (appended n (text_at block place)) ≡ true → checked_at n ws ks block place ≡ Err (refusal 22 place)
    unfolding checked_at
    at-conflict f = rw (e, f)

    at-behind : any_conflict ws ks [] (appended n (text_at block place)) ≡ false
        → checked_at n ws ks block place ≡ behind_of (string_at block place) (sought_of (on_from block (end_at block place)))
    unfolding checked_at
    at-behind f = rw (e, f)

-- the code takes the string as a part of the block, from place to end
module _ (block : List ℕ) (place end : ℕ) (is : end ≡ end_at block place) where
  count-is : end - place ≡ length (text_at block place)
  count-is = omega (arith, is)

  pub end-within : place ≤ length block → (place ≤ end) × (end ≤ length block)
  end-within h = (omega (arith, is), omega (arith, is, front-within is_solid (drop place block), length-drop place block))

  text-is : take (end - place) (drop place block) ≡ text_at block place
  text-is = token-part block place end is

  module _ (n : ℕ) (ws ks : List ℕ) (fits : Bool) (e : fits ≡ leb (n + (end - place)) (index_limit + 1)) where
    fits-is : fits ≡ leb (n + length (text_at block place)) (index_limit + 1)
    fits-is = e ∙ ap (λ (m : ℕ). leb (n + m) (index_limit + 1)) count-is

    pub is-beyond : not fits ≡ true → Err (refusal 5 place) ≡ checked_at n ws ks block place
    is-beyond f = sym (at-beyond n ws ks block place (sym fits-is ∙ not-true fits f))

    module _ (f : not fits ≡ false) where
      does-fit : leb (n + length (text_at block place)) (index_limit + 1) ≡ true
      does-fit = sym fits-is ∙ not-false fits f

      pub text-fits : n + length (take (end - place) (drop place block)) ≤ index_limit + 1
      text-fits = rw text-is (leb-true (n + length (text_at block place)) (index_limit + 1) does-fit)

      module _ (found : Bool) (g : found ≡ any_conflict ws ks [] (appended n (take (end - place) (drop place block)))) where
        found-is : found ≡ any_conflict ws ks [] (appended n (text_at block place))
        found-is = g ∙ ap (λ (l : List ℕ). any_conflict ws ks [] (appended n l)) text-is

        pub is-conflict : found ≡ true → Err (refusal 22 place) ≡ checked_at n ws ks block place
        is-conflict h = sym (at-conflict n ws ks block place does-fit (sym found-is ∙ h))

        pub is-behind : found ≡ false → (r : Result (Option Token) Refusal) → r ≡ behind_of (record { place = place; end = end }) (sought_of (on_from block end))
            → r ≡ checked_at n ws ks block place
        is-behind h r k =
            k ∙ ap (λ (m : ℕ). behind_of (record { place = place; end = m }) (sought_of (on_from block m))) is
            ∙ sym (at-behind n ws ks block place does-fit (sym found-is ∙ h))

-- ---- what the definition hears
module _ (f : Form) (n : ℕ) (ws ks : List ℕ) where
  pub hear-nothing : (is : List Item) → nothing ≡ sought_of is → accepted [] ≡ hear f n ws ks [] is
  unfolding hear
  hear-nothing [] e = refl
  hear-nothing (untagged p ∷ is) e = let z : ◌≡◌ {A = ℕ} 0 1 = cc in absurd (omega arith)
  hear-nothing (token p s ∷ is) e = let z : ◌≡◌ {A = ℕ} 0 1 = cc in absurd (omega arith)

  pub hear-line : (q : ℕ) (is : List Item) → line q ≡ sought_of is → refused (refusal 20 q) ≡ hear f n ws ks [] is
  unfolding hear
  hear-line q [] e = let z : ◌≡◌ {A = ℕ} 0 1 = cc in absurd (omega arith)
  hear-line q (untagged p ∷ is) e = let z : q ≡ p = cc in ap (λ (m : ℕ). refused (refusal 20 m)) z
  hear-line q (token p s ∷ is) e = let z : ◌≡◌ {A = ℕ} 0 1 = cc in absurd (omega arith)

module _ (n : ℕ) (ws ks : List ℕ) (p : ℕ) (s : List ℕ) (is : List Item) where
  hear-beyond : leb (n + length s) (index_limit + 1) ≡ false → hear ZerosAndOnes n ws ks [] (token p s ∷ is) ≡ refused (refusal 5 p)
  unfolding hear bits_token
  hear-beyond e = rw (e, hear)

  module _ (e : leb (n + length s) (index_limit + 1) ≡ true) where
    hear-conflict : any_conflict ws ks [] (appended n s) ≡ true → hear ZerosAndOnes n ws ks [] (token p s ∷ is) ≡ refused (refusal 22 p)
    unfolding hear bits_token
    hear-conflict f = rw (e, f, hear)

    hear-on : any_conflict ws ks [] (appended n s) ≡ false
        → hear ZerosAndOnes n ws ks [] (token p s ∷ is) ≡ hear ZerosAndOnes n ws ks (appended n s) is
    unfolding hear bits_token
    hear-on f = rw (e, f, hear)

-- behind a string from place to end: nothing more, or a line without `v`
behind-says :
    (n : ℕ) (ws ks block : List ℕ) (place end : ℕ) (is : List Item) → ((p : ℕ) → sought_of is ≡ word p → ⊥) →
    said_checked n block (behind_of (record { place = place; end = end }) (sought_of is))
    ≡ hear ZerosAndOnes n ws ks (appended n (take (end - place) (drop place block))) is
unfolding hear
behind-says n ws ks block place end [] none = refl
behind-says n ws ks block place end (untagged p ∷ is) none = refl
behind-says n ws ks block place end (token p s ∷ is) none = absurd (none p refl)

behind-fits : (n m : ℕ) (place end : ℕ) (f : Found) → place < end → end ≤ m → n + (end - place) ≤ index_limit + 1
    → Fitting (behind_of (record { place = place; end = end }) f) n m
behind-fits n m place end nothing g h i = (g, h, i)
behind-fits n m place end (line p) g h i = tt
behind-fits n m place end (word p) g h i = tt

-- ---- in a block whose form is one string
module _ (n : ℕ) (ws ks block : List ℕ) (form : form_of block ≡ ZerosAndOnes) (place : ℕ)
    (met : word place ≡ sought_of (items_from front 0 block)) where
  here : TokenMet front block 0 place
  here = token-met front block 0 place (sym met)

  pub met-within : place ≤ length block
  met-within = omega (arith, here.within)

  abbrev text : List ℕ
  text = text_at block place

  abbrev items : List Item
  items = on_from block (place + length text)

  text-again : take (place + length text - place) (drop place block) ≡ text
  text-again = token-part block place (place + length text) refl

  met-says : said_checked n block (checked_at n ws ks block place) ≡ hear ZerosAndOnes n ws ks [] (items_from front 0 block)
  met-says =
      cases (leb (n + length text) (index_limit + 1)) (any_conflict ws ks [] (appended n text)) refl refl
      ∙ ap (hear ZerosAndOnes n ws ks []) (sym here.items)
    where
      cases :
          (x y : Bool) → leb (n + length text) (index_limit + 1) ≡ x → any_conflict ws ks [] (appended n text) ≡ y →
          said_checked n block (checked_at n ws ks block place) ≡ hear ZerosAndOnes n ws ks [] (token place text ∷ items)
      cases false y e f = ap (said_checked n block) (at-beyond n ws ks block place e) ∙ sym (hear-beyond n ws ks place text items e)
      cases true true e f =
          ap (said_checked n block) (at-conflict n ws ks block place e f) ∙ sym (hear-conflict n ws ks place text items e f)
      cases true false e f =
          ap (said_checked n block) (at-behind n ws ks block place e f)
          ∙ behind-says n ws ks block place (place + length text) items (none-behind block form place (sym met))
          ∙ ap (λ (l : List ℕ). hear ZerosAndOnes n ws ks (appended n l) items) text-again
          ∙ sym (hear-on n ws ks place text items e f)

  met-fits : Fitting (checked_at n ws ks block place) n (length block)
  met-fits = cases (leb (n + length text) (index_limit + 1)) (any_conflict ws ks [] (appended n text)) refl refl
    where
      cases : (x y : Bool) → leb (n + length text) (index_limit + 1) ≡ x → any_conflict ws ks [] (appended n text) ≡ y
          → Fitting (checked_at n ws ks block place) n (length block)
      cases false y e f = rw (at-beyond n ws ks block place e) tt
      cases true true e f = rw (at-conflict n ws ks block place e f) tt
      cases true false e f =
          let l = leb-true (n + length text) (index_limit + 1) e in
          rw (at-behind n ws ks block place e f)
          (behind-fits n (length block) place (place + length text) (sought_of items) (omega (arith, here.some)) here.fits (omega arith))

  pub met-answer : (r : Result (Option Token) Refusal) → r ≡ checked_at n ws ks block place
      → (said_checked n block r ≡ hear ZerosAndOnes n ws ks [] (items_from front 0 block)) × Fitting r n (length block)
  met-answer r e = (ap (said_checked n block) e ∙ met-says, rw e met-fits)
