-- A block whose form is one string: white space, zeros and ones, white space. What is met in it is that string, or a
-- line without `v`, and behind the string only white space stands.
use Prim.Native.Nat.{ℕ, suc, ◌+◌}
use mathlib.Core.Path.{◌≡◌, refl, sym, ap, ◌∙◌}
use mathlib.Core.Bool.{Bool, true, false}
use mathlib.Core.List.{List, [], ◌∷◌}
use native.Mathlib.Omega.{arith}
use borrow.Author.Tests.{eqb-true}
use lib.Dec.{eqb}
use lib.ListN.{length, drop}
use lib.Seq.{drop-drop}
use Rattle.definitions.specs.Bytes.{lf, letter_x}
use Rattle.definitions.specs.Values.{letter_v, is_white, is_solid, is_bit, front_of, behind, among, only_bits, form_of, front, between, items_from}
use Rattle.definitions.specs.declared.Form.TheVariants.{SignedNumbers, ZerosAndOnes, XTokens}
use Rattle.items.specs.Items.{line, word, spot_of, sought_of, text_at, on_from}
use Rattle.items.proofs.Runs.{front-more, front-none}
use Rattle.items.proofs.Spots.{lf-white, front-v, front-untagged, between-lf, between-white, between-solid}

-- ---- what stands behind a run
module _ (t : ℕ → Bool) (b : ℕ) (s : List ℕ) where
  behind_more : t b ≡ true → behind t (b ∷ s) ≡ behind t s
  behind_more e = ap (λ (l : List ℕ). drop (length l) (b ∷ s)) (front-more t b s e)

  behind-none : t b ≡ false → behind t (b ∷ s) ≡ b ∷ s
  behind-none e = ap (λ (l : List ℕ). drop (length l) (b ∷ s)) (front-none t b s e)

-- ---- white space; zeros and ones, then white space; white space in front of them too
abbrev AllWhite : List ℕ → Type 0
AllWhite s = length (behind is_white s) ≡ 0

abbrev Bits : List ℕ → Type 0
Bits s = AllWhite (behind is_bit s)

abbrev OneString : List ℕ → Type 0
OneString s = Bits (behind is_white s)

bit-solid : (b : ℕ) → is_bit b ≡ true → is_white b ≡ false
bit-solid b e = cases (eqb b 48) (eqb b 49) refl refl
  where
    cases : (x y : Bool) → eqb b 48 ≡ x → eqb b 49 ≡ y → is_white b ≡ false
    cases true y f g = rw (eqb-true b 48 f)
    cases false true f g = rw (eqb-true b 49 g)
    cases false false f g = let z : true ≡ false = sym e ∙ rw (f, g) in let y : ◌≡◌ {A = ℕ} 0 1 = cc in absurd (omega arith)

white-first : (b : ℕ) (s : List ℕ) → AllWhite (b ∷ s) → is_white b ≡ true
white-first b s h = cases (is_white b) refl
  where
    cases : (x : Bool) → is_white b ≡ x → is_white b ≡ true
    cases true e = e
    cases false e = absurd (omega (arith, h, ap length (behind-none is_white b s e)))

white-more : (b : ℕ) (s : List ℕ) → AllWhite (b ∷ s) → AllWhite s
white-more b s h = sym (ap length (behind_more is_white b s (white-first b s h))) ∙ h

-- a line that begins with `v` is no part of one string
no-v : (b : ℕ) (s : List ℕ) → eqb b letter_v ≡ true → OneString (b ∷ s) → ⊥
no-v b s e h =
    let w : is_white b ≡ false = rw (eqb-true b letter_v e) in
    let n : is_bit b ≡ false = rw (eqb-true b letter_v e) in
    let x : OneString (b ∷ s) ≡ AllWhite (b ∷ s) = ap Bits (behind-none is_white b s w) ∙ ap AllWhite (behind-none is_bit b s n) in
    let y : AllWhite (b ∷ s) = rw x at h in
    omega (arith, y, ap length (behind-none is_white b s w))

-- zeros and ones are a token's bytes, and white space ends it
pub bits-end : (s : List ℕ) → Bits s → AllWhite (behind is_solid s)
unfolding front_of
bits-end [] h = refl
bits-end (b ∷ s) h = cases (is_bit b) refl (bits-end s)
  where
    cases : (x : Bool) → is_bit b ≡ x → (Bits s → AllWhite (behind is_solid s)) → AllWhite (behind is_solid (b ∷ s))
    cases true e more =
        let f : is_solid b ≡ true = rw (bit-solid b e) in
        let g : Bits s = rw (behind_more is_bit b s e) at h in
        rw (behind_more is_solid b s f) (more g)
    cases false e more =
        let g : AllWhite (b ∷ s) = rw (behind-none is_bit b s e) at h in
        let f : is_solid b ≡ false = rw (white-first b s g) in
        rw (behind-none is_solid b s f) g

-- ---- what is met in white space: no token
no-token : (s : List ℕ) (opens : Bool) (q p : ℕ) → AllWhite s → sought_of (items_from (spot_of opens) q s) ≡ word p → ⊥
unfolding items_from
no-token [] true q p h e = let z : ◌≡◌ {A = ℕ} 0 1 = cc in omega arith
no-token [] false q p h e = let z : ◌≡◌ {A = ℕ} 0 1 = cc in omega arith
no-token (b ∷ s) true q p h e = cases (eqb b letter_v) refl (no-token s false (q + 1) p (white-more b s h))
  where
    cases : (x : Bool) → eqb b letter_v ≡ x → (sought_of (items_from between (q + 1) s) ≡ word p → ⊥) → ⊥
    cases true f more = more (rw (front-v q b s f) at e)
    cases false f more = let g : line q ≡ word p = rw (front-untagged q b s f) at e in let z : ◌≡◌ {A = ℕ} 0 1 = cc in omega arith
no-token (b ∷ s) false q p h e =
    cases (eqb b lf) refl (no-token s true (q + 1) p (white-more b s h)) (no-token s false (q + 1) p (white-more b s h))
  where
    cases : (x : Bool) → eqb b lf ≡ x → (sought_of (items_from front (q + 1) s) ≡ word p → ⊥)
        → (sought_of (items_from between (q + 1) s) ≡ word p → ⊥) → ⊥
    cases true f opened more = opened (rw (between-lf q b s f) at e)
    cases false f opened more = more (rw (between-white q b s f (white-first b s h)) at e)

-- ---- what is met in one string: a token of it begins with a zero or a one, k bytes on
record Begun (q : ℕ) (s : List ℕ) (p : ℕ) : Type 0 where
  k : ℕ
  place : p ≡ q + k
  bits : Bits (drop k s)

later : (q b : ℕ) (s : List ℕ) (p : ℕ) → Begun (q + 1) s p → Begun q (b ∷ s) p
later q b s p g = record { k = suc g.k; place = omega (arith, g.place); bits = g.bits }

string-more : (b : ℕ) (s : List ℕ) → is_white b ≡ true → OneString (b ∷ s) → OneString s
string-more b s e h = rw (behind_more is_white b s e) at h

string-first : (b : ℕ) (s : List ℕ) → is_white b ≡ false → OneString (b ∷ s) → Bits (b ∷ s)
string-first b s e h = rw (behind-none is_white b s e) at h

begun-front : (q b : ℕ) (s : List ℕ) (p : ℕ) → OneString (b ∷ s) → sought_of (items_from front q (b ∷ s)) ≡ word p → Begun q (b ∷ s) p
begun-front q b s p h e = cases (eqb b letter_v) refl
  where
    cases : (x : Bool) → eqb b letter_v ≡ x → Begun q (b ∷ s) p
    cases true f = absurd (no-v b s f h)
    cases false f = let g : line q ≡ word p = rw (front-untagged q b s f) at e in let z : ◌≡◌ {A = ℕ} 0 1 = cc in absurd (omega arith)

begun : (s : List ℕ) (opens : Bool) (q p : ℕ) → OneString s → sought_of (items_from (spot_of opens) q s) ≡ word p → Begun q s p
unfolding items_from
begun [] true q p h e = let z : ◌≡◌ {A = ℕ} 0 1 = cc in absurd (omega arith)
begun [] false q p h e = let z : ◌≡◌ {A = ℕ} 0 1 = cc in absurd (omega arith)
begun (b ∷ s) true q p h e = begun-front q b s p h e
begun (b ∷ s) false q p h e = cases (eqb b lf) (is_white b) refl refl (begun s true (q + 1) p) (begun s false (q + 1) p)
  where
    cases :
        (x y : Bool) → eqb b lf ≡ x → is_white b ≡ y → (OneString s → sought_of (items_from front (q + 1) s) ≡ word p → Begun (q + 1) s p)
        → (OneString s → sought_of (items_from between (q + 1) s) ≡ word p → Begun (q + 1) s p) → Begun q (b ∷ s) p
    cases true y f g opened more = later q b s p (opened (string-more b s (lf-white b f) h) (rw (between-lf q b s f) at e))
    cases false true f g opened more = later q b s p (more (string-more b s g h) (rw (between-white q b s f g) at e))
    cases false false f g opened more =
        let i : word q ≡ word p = rw (between-solid q b s f g) at e in
        let j : q ≡ p = cc in
        record { k = 0; place = omega arith; bits = string-first b s g h }

-- ---- the form of a block
form-string : (b : ℕ) (s : List ℕ) → form_of (b ∷ s) ≡ ZerosAndOnes → OneString s
unfolding form_of
form-string b s e = cases (among letter_x (b ∷ s)) (only_bits s) refl refl
  where
    n : ℕ
    n = length (behind is_white (behind is_bit (behind is_white s)))

    cases : (x y : Bool) → among letter_x (b ∷ s) ≡ x → eqb n 0 ≡ y → OneString s
    cases true y f g = let i : XTokens ≡ ZerosAndOnes = rw f at e in let z : ◌≡◌ {A = ℕ} 0 1 = cc in absurd (omega arith)
    cases false true f g = eqb-true n 0 g
    cases false false f g = let i : SignedNumbers ≡ ZerosAndOnes = rw (f, g) at e in let z : ◌≡◌ {A = ℕ} 0 1 = cc in absurd (omega arith)

block-bits : (block : List ℕ) → form_of block ≡ ZerosAndOnes → (place : ℕ) → sought_of (items_from front 0 block) ≡ word place
    → Bits (drop place block)
unfolding items_from
block-bits [] form place met = let z : ◌≡◌ {A = ℕ} 0 1 = cc in absurd (omega arith)
block-bits (b ∷ s) form place met = cases (eqb b letter_v) refl
  where
    cases : (x : Bool) → eqb b letter_v ≡ x → Bits (drop place (b ∷ s))
    cases true e =
        let g : Begun 1 s place = begun s false 1 place (form-string b s form) (rw (front-v 0 b s e) at met) in
        let i : place ≡ suc g.k = omega (arith, g.place) in
        rw i g.bits
    cases false e = let g : line 0 ≡ word place = rw (front-untagged 0 b s e) at met in let z : ◌≡◌ {A = ℕ} 0 1 = cc in absurd (omega arith)

-- behind the string no token stands
pub none-behind :
    (block : List ℕ) → form_of block ≡ ZerosAndOnes → (place : ℕ) → sought_of (items_from front 0 block) ≡ word place →
    (p : ℕ) → sought_of (on_from block (place + length (text_at block place))) ≡ word p → ⊥
none-behind block form place met p =
    let n = length (text_at block place) in
    let w : AllWhite (drop (place + n) block) =
    rw (drop-drop n place block) at (bits-end (drop place block) (block-bits block form place met)) in
    no-token (drop (place + n) block) false (place + n) p w
