-- The form of a block: the test for one string of zeros and ones by three runs, for `is_string`, and the forms one
-- after the other, for `form_of`.
use Prim.Native.Nat.{ℕ, ◌+◌, ◌-◌, ◌≤◌, ◌<◌}
use mathlib.Core.Path.{◌≡◌, refl, ap, sym, ◌∙◌}
use mathlib.Core.Bool.{Bool, true, false, not, ◌&&◌}
use mathlib.Core.List.{List, [], ◌∷◌}
use native.Mathlib.Omega.{arith}
use borrow.Author.Tests.{eq-eqb, ne_eqb}
use lib.Dec.{eqb}
use lib.ListN.{length, get_or, take, drop, length-drop}
use lib.Seq.{drop-drop, get_or-take, get_or-drop, take_all}
use Rattle.std.specs.List.{list_any}
use Rattle.definitions.specs.Bytes.{letter_x}
use Rattle.definitions.specs.Values.{zero_digit, is_white, is_bit, front_of, behind, among, only_bits, just_zero, form_of}
use Rattle.definitions.specs.declared.Form.TheVariants.{SignedNumbers, ZerosAndOnes, XTokens}
use Rattle.items.proofs.Runs.{front-within, front-take, any-among}

-- zeros and ones alone, but not just `0`
abbrev pub is_string : List ℕ → Bool
is_string s = only_bits s && not (just_zero (front_of is_bit (behind is_white s)))

just-more : (l : List ℕ) → (length l ≡ 1 → ⊥) → just_zero l ≡ false
just-more [] h = refl
just-more (b ∷ []) h = absurd (h refl)
just-more (b ∷ c ∷ s) h = refl

just-one : (l : List ℕ) → length l ≡ 1 → just_zero l ≡ eqb (get_or l 0 0) zero_digit
just-one [] h = absurd (omega arith)
just-one (b ∷ []) h = refl
just-one (b ∷ c ∷ s) h = absurd (omega arith)

-- a white bytes, b zeros and ones, c white bytes
pub record Trimmed (s : List ℕ) (a b c : ℕ) : Type 0 where
  pub first : a ≡ length (front_of is_white s)
  pub bits : b ≡ length (front_of is_bit (drop a s))
  pub last : c ≡ length (front_of is_white (drop (a + b) s))

pub first-within : (s : List ℕ) (a : ℕ) → a ≡ length (front_of is_white s) → a ≤ length s
first-within s a e = omega (arith, front-within is_white s)

pub bits-within : (s : List ℕ) (a b : ℕ) → a ≤ length s → b ≡ length (front_of is_bit (drop a s)) → a + b ≤ length s
bits-within s a b h e = omega (arith, front-within is_bit (drop a s), length-drop a s)

pub last_within : (s : List ℕ) (a c : ℕ) → a ≤ length s → c ≡ length (front_of is_white (drop a s)) → a + c ≤ length s
last_within s a c h e = omega (arith, front-within is_white (drop a s), length-drop a s)

module _ (s : List ℕ) (a b c : ℕ) (t : Trimmed s a b c) where
  behind-white : behind is_white s ≡ drop a s
  behind-white = ap (λ (n : ℕ). drop n s) (sym t.first)

  behind-bits : behind is_bit (behind is_white s) ≡ drop (a + b) s
  behind-bits = ap (behind is_bit) behind-white ∙ ap (λ (n : ℕ). drop n (drop a s)) (sym t.bits) ∙ drop-drop b a s

  behind-all : behind is_white (behind is_bit (behind is_white s)) ≡ drop (a + b + c) s
  behind-all = ap (behind is_white) behind-bits ∙ ap (λ (n : ℕ). drop n (drop (a + b) s)) (sym t.last) ∙ drop-drop c (a + b) s

  left : length (behind is_white (behind is_bit (behind is_white s))) ≡ length s - (a + b + c)
  left = ap length behind-all ∙ length-drop (a + b + c) s

  only-bits : length s ≤ a + b + c → only_bits s ≡ true
  only-bits h = eq-eqb _ 0 (left ∙ omega arith)

  not-only : a + b + c < length s → only_bits s ≡ false
  not-only h = ne_eqb (length (behind is_white (behind is_bit (behind is_white s)))) 0 (λ e. omega (arith, sym left ∙ e))

  bits-here : front_of is_bit (behind is_white s) ≡ front_of is_bit (drop a s)
  bits-here = ap (front_of is_bit) behind-white

  bits-count : length (front_of is_bit (behind is_white s)) ≡ b
  bits-count = ap length bits-here ∙ sym t.bits

  first_bit : 0 < b → get_or (front_of is_bit (behind is_white s)) 0 0 ≡ get_or s a 0
  first_bit h =
      ap (λ (l : List ℕ). get_or l 0 0) (bits-here ∙ sym (front-take is_bit (drop a s)) ∙ ap (λ (n : ℕ). take n (drop a s)) (sym t.bits))
      ∙ get_or-take b (drop a s) 0 0 h ∙ get_or-drop a s 0 0 ∙ ap (λ (n : ℕ). get_or s n 0) (omega arith)

  pub string-not : a + b + c < length s → false ≡ is_string s
  string-not h =
      sym (ap (λ (x : Bool). x && not (just_zero (front_of is_bit (behind is_white s)))) (not-only h))

  pub string-more : length s ≤ a + b + c → (b ≡ 1 → ⊥) → true ≡ is_string s
  string-more h g =
      let z = just-more (front_of is_bit (behind is_white s)) (λ e. g (sym bits-count ∙ e)) in
      sym (ap (λ (x : Bool). x && not (just_zero (front_of is_bit (behind is_white s)))) (only-bits h) ∙ ap not z)

  pub string-one : length s ≤ a + b + c → b ≡ 1 → not (eqb (get_or s a 0) zero_digit) ≡ is_string s
  string-one h g =
      let z = just-one (front_of is_bit (behind is_white s)) (bits-count ∙ g) ∙ ap (λ (n : ℕ). eqb n zero_digit) (first_bit (omega arith)) in
      sym (ap (λ (x : Bool). x && not (just_zero (front_of is_bit (behind is_white s)))) (only-bits h) ∙ ap not z)

-- ---- the forms

module _ (s : List ℕ) where
  pub form-x : among letter_x s ≡ true → XTokens ≡ form_of s
  unfolding form_of
  form-x e = rw e

  pub form-string : among letter_x s ≡ false → is_string (drop 1 s) ≡ true → ZerosAndOnes ≡ form_of s
  unfolding form_of
  form-string e f = rw (e, f)

  pub form-numbers : among letter_x s ≡ false → is_string (drop 1 s) ≡ false → SignedNumbers ≡ form_of s
  unfolding form_of
  form-numbers e f = rw (e, f)

-- `contains` tells whether an `x` stands there
module _ (s : List ℕ) where
  abbrev pub has_x : Bool
  has_x = list_any (λ b. eqb b letter_x) s

  pub any-is : (t : Bool) → has_x ≡ t → among letter_x s ≡ t
  any-is t e = sym (any-among letter_x s) ∙ e

  pub any-x : has_x ≡ true → XTokens ≡ form_of s
  any-x e = form-x s (any-is true e)

pub form-empty : (s : List ℕ) → length s ≡ 0 → ZerosAndOnes ≡ form_of s
unfolding form_of among front_of
form-empty [] h = refl
form-empty (b ∷ s) h = absurd (omega arith)

-- an `x`, also where the block is lent as its own part
pub ruleset by_block = (any-x, take_all)
