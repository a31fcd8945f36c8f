-- What is met next in a block: the items byte by byte, for the loop of `seek`, and what a token that is met means for
-- the walk behind it.
use Prim.Native.Nat.{ℕ, suc, ◌+◌, ◌≤◌, ◌<◌}
use mathlib.Core.Path.{◌≡◌, refl, ap, sym, ◌∙◌}
use mathlib.Core.Bool.{Bool, true, false}
use mathlib.Core.List.{List, [], ◌∷◌}
use native.Mathlib.Omega.{arith}
use native.Mathlib.Numerals.{add-one}
use borrow.Author.Tests.{eqb-true, eq-eqb, ne_eqb}
use lib.Dec.{eqb}
use lib.ListN.{length, get_or, drop, length-drop, drop_of_length-le}
use lib.Seq.{drop-cons, drop-drop}
use Rattle.definitions.specs.Bytes.{lf}
use Rattle.definitions.specs.Values.{letter_v, is_white, is_solid, front_of, Item, untagged, token, Spot, front, between, inside, items_from}
use Rattle.items.specs.Items.{nothing, line, word, sought_of, spot_of, found_from, text_at, end_at, on_from}
use Rattle.items.proofs.Runs.{front-more, front-none, front-within}

-- ---- one byte
module _ (p : ℕ) (b : ℕ) (s : List ℕ) where
  pub front-v : eqb b letter_v ≡ true → items_from front p (b ∷ s) ≡ items_from between (p + 1) s
  unfolding items_from
  front-v e = rw (e, items_from)

  pub front-untagged : eqb b letter_v ≡ false → items_from front p (b ∷ s) ≡ untagged p ∷ []
  unfolding items_from
  front-untagged e = rw (e, items_from)

  pub between-lf : eqb b lf ≡ true → items_from between p (b ∷ s) ≡ items_from front (p + 1) s
  unfolding items_from
  between-lf e = rw (e, items_from)

  pub between-white : eqb b lf ≡ false → is_white b ≡ true → items_from between p (b ∷ s) ≡ items_from between (p + 1) s
  unfolding items_from
  between-white e f = rw (e, f, items_from)

  pub between-solid : eqb b lf ≡ false → is_white b ≡ false
      → items_from between p (b ∷ s) ≡ token p (front_of is_solid (b ∷ s)) ∷ items_from inside (p + 1) s
  unfolding items_from
  between-solid e f = rw (e, f, items_from)

  inside-lf : eqb b lf ≡ true → items_from inside p (b ∷ s) ≡ items_from front (p + 1) s
  unfolding items_from
  inside-lf e = rw (e, items_from)

  inside-white : eqb b lf ≡ false → is_white b ≡ true → items_from inside p (b ∷ s) ≡ items_from between (p + 1) s
  unfolding items_from
  inside-white e f = rw (e, f, items_from)

  inside-solid : eqb b lf ≡ false → is_white b ≡ false → items_from inside p (b ∷ s) ≡ items_from inside (p + 1) s
  unfolding items_from
  inside-solid e f = rw (e, f, items_from)

pub lf-white : (b : ℕ) → eqb b lf ≡ true → is_white b ≡ true
lf-white b e = rw (eqb-true b lf e)

-- ---- behind a token

-- what is met from a token's end on, if one stands at the front
abbrev beyond : ℕ → List ℕ → List Item
beyond p s = items_from between (p + length (front_of is_solid s)) (drop (length (front_of is_solid s)) s)

beyond-white : (p b : ℕ) (s : List ℕ) → is_white b ≡ true → beyond p (b ∷ s) ≡ items_from between p (b ∷ s)
beyond-white p b s e = rw (front-none is_solid b s (rw e)) (ap (λ (n : ℕ). items_from between n (b ∷ s)) (omega arith))

beyond-solid : (p b : ℕ) (s : List ℕ) → is_white b ≡ false → beyond p (b ∷ s) ≡ beyond (p + 1) s
beyond-solid p b s e =
    rw (front-more is_solid b s (rw e)) (ap (λ (n : ℕ). items_from between n (drop (length (front_of is_solid s)) s)) (omega arith))

-- all behind a token's byte is met as from the token's end on
inside_on : (p : ℕ) (s : List ℕ) → items_from inside p s ≡ beyond p s
unfolding items_from front_of
inside_on p [] = refl
inside_on p (b ∷ s) = cases (eqb b lf) (is_white b) refl refl (inside_on (p + 1) s)
  where
    cases : (x y : Bool) → eqb b lf ≡ x → is_white b ≡ y → items_from inside (p + 1) s ≡ beyond (p + 1) s
        → items_from inside p (b ∷ s) ≡ beyond p (b ∷ s)
    cases true y e f h = inside-lf p b s e ∙ sym (between-lf p b s e) ∙ sym (beyond-white p b s (lf-white b e))
    cases false true e f h = inside-white p b s e f ∙ sym (between-white p b s e f) ∙ sym (beyond-white p b s f)
    cases false false e f h = inside-solid p b s e f ∙ h ∙ sym (beyond-solid p b s f)

-- ---- the next item of a list whose first byte has the offset q

-- a token, k bytes on
record TokenOn (w : Spot) (q : ℕ) (s : List ℕ) (p : ℕ) : Type 0 where
  k : ℕ
  place : p ≡ q + k
  within : k < length s
  some : 0 < length (front_of is_solid (drop k s))
  items : items_from w q s ≡ token p (front_of is_solid (drop k s)) ∷ beyond p (drop k s)

-- a line without `v`, k bytes on
record LineOn (w : Spot) (q : ℕ) (s : List ℕ) (p : ℕ) : Type 0 where
  k : ℕ
  place : p ≡ q + k
  within : k < length s
  items : items_from w q s ≡ untagged p ∷ []

-- a byte more in front, which is passed
module _ (w v : Spot) (q : ℕ) (b : ℕ) (s : List ℕ) (p : ℕ) (e : items_from w q (b ∷ s) ≡ items_from v (q + 1) s) where
  token-later : TokenOn v (q + 1) s p → TokenOn w q (b ∷ s) p
  token-later t =
      record { k = suc t.k; place = omega (arith, t.place); within = omega (arith, t.within); some = t.some; items = e ∙ t.items }

  line-later : LineOn v (q + 1) s p → LineOn w q (b ∷ s) p
  line-later t = record { k = suc t.k; place = omega (arith, t.place); within = omega (arith, t.within); items = e ∙ t.items }

token-here : (q b : ℕ) (s : List ℕ) → eqb b lf ≡ false → is_white b ≡ false → TokenOn between q (b ∷ s) q
token-here q b s e f =
    record {
      k = 0;
      place = omega arith;
      within = omega arith;
      some = rw (front-more is_solid b s (rw f)) (omega arith);
      items = between-solid q b s e f ∙ ap (λ (is : List Item). token q (front_of is_solid (b ∷ s)) ∷ is)
          (inside_on (q + 1) s ∙ sym (beyond-solid q b s f));
    }

data Meets (w : Spot) (q : ℕ) (s : List ℕ) : Type 0 where
  none : items_from w q s ≡ [] → Meets w q s
  a-line : (p : ℕ) → LineOn w q s p → Meets w q s
  a-token : (p : ℕ) → TokenOn w q s p → Meets w q s

meets-later : (w v : Spot) (q : ℕ) (b : ℕ) (s : List ℕ) → items_from w q (b ∷ s) ≡ items_from v (q + 1) s → Meets v (q + 1) s
    → Meets w q (b ∷ s)
meets-later w v q b s e (none h) = none (e ∙ h)
meets-later w v q b s e (a-line p h) = a-line p (line-later w v q b s p e h)
meets-later w v q b s e (a-token p h) = a-token p (token-later w v q b s p e h)

line-here : (q b : ℕ) (s : List ℕ) → eqb b letter_v ≡ false → LineOn front q (b ∷ s) q
line-here q b s e = record { k = 0; place = omega arith; within = omega arith; items = front-untagged q b s e }

-- a byte at each spot, and what is met behind it
module _ (q b : ℕ) (s : List ℕ) (more : (v : Spot) → Meets v (q + 1) s) where
  meets-front : (x : Bool) → eqb b letter_v ≡ x → Meets front q (b ∷ s)
  meets-front true e = meets-later front between q b s (front-v q b s e) (more between)
  meets-front false e = a-line q (line-here q b s e)

  meets-between : (x y : Bool) → eqb b lf ≡ x → is_white b ≡ y → Meets between q (b ∷ s)
  meets-between true y e f = meets-later between front q b s (between-lf q b s e) (more front)
  meets-between false true e f = meets-later between between q b s (between-white q b s e f) (more between)
  meets-between false false e f = a-token q (token-here q b s e f)

  meets-inside : (x y : Bool) → eqb b lf ≡ x → is_white b ≡ y → Meets inside q (b ∷ s)
  meets-inside true y e f = meets-later inside front q b s (inside-lf q b s e) (more front)
  meets-inside false true e f = meets-later inside between q b s (inside-white q b s e f) (more between)
  meets-inside false false e f = meets-later inside inside q b s (inside-solid q b s e f) (more inside)

meets : (s : List ℕ) (w : Spot) (q : ℕ) → Meets w q s
unfolding items_from
meets [] w q = none refl
meets (b ∷ s) front q = meets-front q b s (λ v. meets s v (q + 1)) (eqb b letter_v) refl
meets (b ∷ s) between q = meets-between q b s (λ v. meets s v (q + 1)) (eqb b lf) (is_white b) refl refl
meets (b ∷ s) inside q = meets-inside q b s (λ v. meets s v (q + 1)) (eqb b lf) (is_white b) refl refl

-- ---- the same by what is sought

only-token : (w : Spot) (q : ℕ) (s : List ℕ) (p : ℕ) → sought_of (items_from w q s) ≡ word p → Meets w q s → TokenOn w q s p
only-token w q s p e (none h) = let z : ◌≡◌ {A = ℕ} 0 1 = cc (rw h at e) in absurd (omega arith)
only-token w q s p e (a-line r h) = let z : ◌≡◌ {A = ℕ} 0 1 = cc (rw h.items at e) in absurd (omega arith)
only-token w q s p e (a-token r h) = let z : r ≡ p = cc (rw h.items at e) in rw z at h

only-line : (w : Spot) (q : ℕ) (s : List ℕ) (p : ℕ) → sought_of (items_from w q s) ≡ line p → Meets w q s → LineOn w q s p
only-line w q s p e (none h) = let z : ◌≡◌ {A = ℕ} 0 1 = cc (rw h at e) in absurd (omega arith)
only-line w q s p e (a-line r h) = let z : r ≡ p = cc (rw h.items at e) in rw z at h
only-line w q s p e (a-token r h) = let z : ◌≡◌ {A = ℕ} 0 1 = cc (rw h.items at e) in absurd (omega arith)

only_end : (w : Spot) (q : ℕ) (s : List ℕ) → sought_of (items_from w q s) ≡ nothing → Meets w q s → items_from w q s ≡ []
only_end w q s e (none h) = h
only_end w q s e (a-line r h) = let z : ◌≡◌ {A = ℕ} 0 1 = cc (rw h.items at e) in absurd (omega arith)
only_end w q s e (a-token r h) = let z : ◌≡◌ {A = ℕ} 0 1 = cc (rw h.items at e) in absurd (omega arith)

-- ---- in a block, from an offset on

pub record TokenMet (w : Spot) (block : List ℕ) (from p : ℕ) : Type 0 where
  pub ahead : from ≤ p
  pub within : p < length block
  pub some : 0 < length (text_at block p)
  pub fits : end_at block p ≤ length block
  pub items : items_from w from (drop from block) ≡ token p (text_at block p) ∷ on_from block (end_at block p)

pub record LineMet (w : Spot) (block : List ℕ) (from p : ℕ) : Type 0 where
  pub ahead : from ≤ p
  pub within : p < length block
  pub items : items_from w from (drop from block) ≡ untagged p ∷ []

module _ (w : Spot) (block : List ℕ) (from : ℕ) where
  pub token-met : (p : ℕ) → sought_of (items_from w from (drop from block)) ≡ word p → TokenMet w block from p
  token-met p e =
      let t = only-token w from (drop from block) p e (meets (drop from block) w from) in
      let g : drop t.k (drop from block) ≡ drop p block = drop-drop t.k from block ∙ ap (λ (n : ℕ). drop n block) (sym t.place) in
      let l : p < length block = omega (arith, t.place, t.within, length-drop from block) in
      record {
        ahead = omega (arith, t.place);
        within = l;
        some = rw g at t.some;
        fits = omega (arith, front-within is_solid (drop p block), length-drop p block);
        items = (rw g at t.items) ∙ rw (drop-drop (length (text_at block p)) p block);
      }

  pub line-met : (p : ℕ) → sought_of (items_from w from (drop from block)) ≡ line p → LineMet w block from p
  line-met p e =
      let t = only-line w from (drop from block) p e (meets (drop from block) w from) in
      record { ahead = omega (arith, t.place); within = omega (arith, t.place, t.within, length-drop from block); items = t.items }

  pub end-met : sought_of (items_from w from (drop from block)) ≡ nothing → items_from w from (drop from block) ≡ []
  end-met e = only_end w from (drop from block) e (meets (drop from block) w from)

-- ---- the loop of `seek`

-- what is sought from `from` on is what is sought from `at` on
pub record Seeking (block : List ℕ) (from : ℕ) (first : Bool) (at : ℕ) (opens : Bool) : Type 0 where
  pub same : found_from first from block ≡ found_from opens at block

pub seeking-none : (block : List ℕ) (from : ℕ) (first : Bool) → Seeking block from first from first
seeking-none block from first = record { same = refl }

module _ (block : List ℕ) (from : ℕ) (first : Bool) (at : ℕ) (opens : Bool) (i : Seeking block from first at opens) where
  pub seeking-end : length block ≤ at → nothing ≡ found_from first from block
  unfolding items_from
  seeking-end h = sym (i.same ∙ rw (drop_of_length-le block h))

  module _ (h : at < length block) where
    seeking-step : (o : Bool) → ((s : List ℕ) → items_from (spot_of opens) at (get_or block at 0 ∷ s) ≡ items_from (spot_of o) (at + 1) s)
        → Seeking block from first (at + 1) o
    seeking-step o e =
        record {
          same =
              i.same ∙ rw (drop-cons block at 0 h) (ap sought_of (e (drop (suc at) block)))
              ∙ ap (λ (n : ℕ). sought_of (items_from (spot_of o) (at + 1) (drop n block))) (sym (add-one at));
        }

    pub seeking-v : opens ≡ true → get_or block at 0 ≡ letter_v → Seeking block from first (at + 1) false
    seeking-v o e = seeking-step false (λ s. rw o (front-v at (get_or block at 0) s (eq-eqb (get_or block at 0) letter_v e)))

    pub seeking-lf : opens ≡ false → get_or block at 0 ≡ lf → Seeking block from first (at + 1) true
    seeking-lf o e = seeking-step true (λ s. rw o (between-lf at (get_or block at 0) s (eq-eqb (get_or block at 0) lf e)))

    pub seeking-white : opens ≡ false → (get_or block at 0 ≡ lf → ⊥) → is_white (get_or block at 0) ≡ true
        → Seeking block from first (at + 1) false
    seeking-white o e f = seeking-step false (λ s. rw o (between-white at (get_or block at 0) s (ne_eqb (get_or block at 0) lf e) f))

    pub seeking-line : opens ≡ true → (get_or block at 0 ≡ letter_v → ⊥) → line at ≡ found_from first from block
    seeking-line o e =
        sym (i.same ∙ rw (drop-cons block at 0 h, o)
        (ap sought_of (front-untagged at (get_or block at 0) (drop (suc at) block) (ne_eqb (get_or block at 0) letter_v e))))

    pub seeking-token : opens ≡ false → (get_or block at 0 ≡ lf → ⊥) → is_white (get_or block at 0) ≡ false
        → word at ≡ found_from first from block
    seeking-token o e f =
        sym (i.same ∙ rw (drop-cons block at 0 h, o)
        (ap sought_of (between-solid at (get_or block at 0) (drop (suc at) block) (ne_eqb (get_or block at 0) lf e) f)))
