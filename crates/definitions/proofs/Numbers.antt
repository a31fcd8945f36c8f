-- What do numbers in text say? The digits at the front and their value, the sizes that 64 signed bits hold, what
-- `number` answers, the digits of a number, and that what is printed reads back.
use mathlib.Core.Path.{◌≡◌, refl, sym, ◌∙◌}
use mathlib.Core.Bool.{Bool, true, false, cond}
use mathlib.Core.List.{List, [], ◌∷◌, ◌++◌, append_assoc, append-nil}
use Prim.Native.Nat.{ℕ, zero, suc, ◌+◌, ◌-◌, ◌*◌, ◌/◌, ◌%◌, ◌^◌, ◌≤◌, ◌<◌}
use native.Mathlib.Nat.{zero-add}
use native.Mathlib.Numerals.{one-add}
use native.Mathlib.Omega.{arith}
use native.Mathlib.Decide.{dec_lt}
use borrow.Author.Tests.{le-leb, lt-leb, lt-ltb, le-ltb, ltb-true, eq-eqb, ne_eqb, eqb-false}
use lib.Dec.{eqb}
use lib.ListN.{length, get_or, drop, length-append}
use lib.IntN.{ℤ, pos, negsuc, nat_abs}
use lib.Signed.{lt_z}
use mir.Syntax.{w64}
use mir.Val.{SFits}
use Rattle.definitions.specs.Refusal.{Fault, fault}
use Rattle.definitions.specs.Limits.{in_i64}
use Rattle.definitions.specs.Bytes.{is_digit, plus, minus}
use Rattle.definitions.specs.Reader.{Got, none, got}
use Rattle.definitions.specs.Number.{leading, value_on, value, signed, ended, number, decimal_in, decimal, integer_text}
use Rattle.definitions.proofs.Truths.{never, cond_same}
use Rattle.definitions.proofs.Whole.{abs_is, one_side, up_pos, dn-pos, up_neg, dn-neg, in-up, in-dn, is-in, in-true, true-in}
use Rattle.definitions.proofs.Whole.{over-up, over-dn}

-- ---- the digits at the front, and their value

pub leading-digit : (b : ℕ) (s : List ℕ) → 48 ≤ b → b ≤ 57 → leading (b ∷ s) ≡ b ∷ leading s
unfolding leading
leading-digit b s h k = rw (le-leb 48 b h, le-leb b 57 k, leading)

pub leading_low : (b : ℕ) (s : List ℕ) → b < 48 → leading (b ∷ s) ≡ []
unfolding leading
leading_low b s h = rw (lt-leb 48 b h, leading)

pub leading-high : (b : ℕ) (s : List ℕ) → 57 < b → leading (b ∷ s) ≡ []
unfolding leading
leading-high b s h = rw (le-leb 48 b (omega arith), lt-leb b 57 h, leading)

pub leading_length : (s : List ℕ) → length (leading s) ≤ length s
unfolding leading
leading_length [] = omega arith
leading_length (b ∷ s) = cases (is_digit b) (leading_length s)
  where
    cases : (d : Bool) → length (leading s) ≤ length s → length {A = ℕ} (elim d [ true ↦ b ∷ leading s | false ↦ [] ]) ≤ length (b ∷ s)
    cases true h = omega arith
    cases false h = omega arith

-- a text with a digit at its front
pub leading-head : (s : List ℕ) → 0 < length (leading s) → (0 < length s) × (48 ≤ get_or s 0 0)
unfolding leading
leading-head [] h = absurd (omega arith)
leading-head (b ∷ s) h = (omega arith, cases (dec_lt b 48))
  where
    cases : Dec (b < 48) → 48 ≤ b
    cases (yes l) = let e : length (leading (b ∷ s)) ≡ 0 = rw (leading_low b s l) in omega arith
    cases (no l) = omega arith

pub value-snoc : (a : ℕ) (s : List ℕ) (b : ℕ) → value_on a (s ++ (b ∷ [])) ≡ value_on a s * 10 + (b - 48)
unfolding value_on
value-snoc a [] b = refl
value-snoc a (x ∷ s) b = value-snoc (a * 10 + (x - 48)) s b

-- ---- the sizes that 64 signed bits hold

-- the greatest one at a sign
abbrev pub most : Bool → ℕ
most true = 9_223_372_036_854_775_808
most false = 9_223_372_036_854_775_807

pub signed-within : (negative : Bool) (m : ℕ) → m ≤ most negative → in_i64 (signed negative m) ≡ true
signed-within true m h =
    in-true _ (is-in _ (omega (arith, up_neg (pos m), dn-pos m)) (omega (arith, dn-neg (pos m), up_pos m)))
signed-within false m h = in-true (pos m) (is-in (pos m) (omega (arith, up_pos m)) (omega (arith, dn-pos m)))

pub within_signed : (negative : Bool) (m : ℕ) → in_i64 (signed negative m) ≡ true → m ≤ most negative
within_signed true m e = omega (arith, in-dn _ (true-in _ e), dn-neg (pos m), up_pos m)
within_signed false m e = omega (arith, in-up _ (true-in (pos m) e), up_pos m)

pub signed-beyond : (negative : Bool) (m : ℕ) → most negative < m → in_i64 (signed negative m) ≡ false
signed-beyond true m h = over-dn _ (omega (arith, dn-neg (pos m), up_pos m))
signed-beyond false m h = over-up (pos m) (omega (arith, up_pos m))

pub size_fits : (z : ℤ) → SFits w64 z → nat_abs z ≤ 2 ^ 63
size_fits z f = omega (arith, abs_is z, one_side z, in-up z f, in-dn z f)

-- ---- what `number` answers

pub number-empty : (s : List ℕ) → length s ≡ 0 → number s ≡ none (fault 3)
unfolding number
number-empty [] e = refl
number-empty (b ∷ s) e = absurd (omega arith)

pub number-minus : (s : List ℕ) → 0 < length s → get_or s 0 0 ≡ minus → number s ≡ ended true 1 (leading (drop 1 s))
unfolding number
number-minus [] h e = absurd (omega arith)
number-minus (b ∷ s) h e = rw (eq-eqb b minus e)

pub number-plus : (s : List ℕ) → 0 < length s → get_or s 0 0 ≡ plus → number s ≡ ended false 1 (leading (drop 1 s))
unfolding number
number-plus [] h e = absurd (omega arith)
number-plus (b ∷ s) h e = rw e

pub number-unsigned : (s : List ℕ) → 0 < length s → (get_or s 0 0 ≡ minus → ⊥) → (get_or s 0 0 ≡ plus → ⊥)
    → number s ≡ ended false 0 (leading s)
unfolding number
number-unsigned [] h e f = absurd (omega arith)
number-unsigned (b ∷ s) h e f = rw (ne_eqb b minus e, ne_eqb b plus f)

pub ended-none : (negative : Bool) (k : ℕ) (ds : List ℕ) → length ds ≡ 0 → ended negative k ds ≡ none (fault 3)
unfolding ended
ended-none negative k ds e = rw e

pub ended-beyond : (negative : Bool) (k : ℕ) (ds : List ℕ) → in_i64 (signed negative (value ds)) ≡ false
    → ended negative k ds ≡ none (fault 3)
unfolding ended
ended-beyond negative k ds e = rw e (cond_same (eqb (length ds) 0) (none (fault 3)))

pub ended-got : (negative : Bool) (k : ℕ) (ds : List ℕ) → (length ds ≡ 0 → ⊥) → in_i64 (signed negative (value ds)) ≡ true
    → ended negative k ds ≡ got (signed negative (value ds)) (k + length ds)
unfolding ended
ended-got negative k ds n e = rw (ne_eqb (length ds) 0 n, e)

-- what holds of refusal 3, and of each number of 64 bits that takes some of the bytes, holds of the answer
module _ {ℓ} (P : Got ℤ → Type ℓ) where
  ended_is : (negative : Bool) (k : ℕ) (ds : List ℕ) → P (none (fault 3))
      → ((z : ℤ) (n : ℕ) → k < n → n ≤ k + length ds → in_i64 z ≡ true → P (got z n)) → P (ended negative k ds)
  unfolding ended
  ended_is negative k ds refused read = cases (eqb (length ds) 0) (in_i64 (signed negative (value ds))) (eqb-false (length ds) 0) (λ e. e)
    where
      cases : (a b : Bool) → (a ≡ false → length ds ≡ 0 → ⊥) → (b ≡ true → in_i64 (signed negative (value ds)) ≡ true)
          → P (cond a (none (fault 3)) (cond b (got (signed negative (value ds)) (k + length ds)) (none (fault 3))))
      cases true b f g = refused
      cases false true f g = let some : length ds ≡ 0 → ⊥ = f refl in read _ _ (omega (arith, some)) (omega arith) (g refl)
      cases false false f g = refused

  pub number_is : (s : List ℕ) → P (none (fault 3)) → ((z : ℤ) (n : ℕ) → 0 < n → n ≤ length s → in_i64 z ≡ true → P (got z n)) → P (number s)
  unfolding number
  number_is [] refused read = refused
  number_is (b ∷ s) refused read = cases (eqb b minus) (eqb b plus)
    where
      at : (negative : Bool) (k : ℕ) (t : List ℕ) → k + length t ≤ length (b ∷ s) → P (ended negative k (leading t))
      at negative k t h =
          ended_is negative k (leading t) refused (λ z n l g e. read z n (omega arith) (omega (arith, leading_length t)) e)

      cases : (m p : Bool) → P (cond m (ended true 1 (leading s)) (cond p (ended false 1 (leading s)) (ended false 0 (leading (b ∷ s)))))
      cases true p = at true 1 s (omega arith)
      cases false true = at false 1 s (omega arith)
      cases false false = at false 0 (b ∷ s) (omega arith)

none-is-no-got {ℓ} : {X : Type ℓ} {A : Type 0} {e : Fault} {a : A} {n : ℕ} → none e ≡ got a n → X
none-is-no-got p = never cc

pub number-within : (s : List ℕ) {z : ℤ} {n : ℕ} → number s ≡ got z n → (0 < n) × (n ≤ length s)
number-within s {z} {n} =
    number_is (λ g. g ≡ got z n → (0 < n) × (n ≤ length s)) s none-is-no-got
    (λ y m l h f e. let q : m ≡ n = cc in (omega arith, omega arith))

pub number_fits : (s : List ℕ) {z : ℤ} {n : ℕ} → number s ≡ got z n → SFits w64 z
number_fits s {z} {n} =
    number_is (λ g. g ≡ got z n → SFits w64 z) s none-is-no-got
    (λ y m l h f e. let q : y ≡ z = cc in rw q at (true-in y f))

-- ---- the digits of a number

-- more room than the number needs changes nothing
small-in : (k n : ℕ) → n < 10 → decimal_in (suc k) n ≡ (48 + n) ∷ []
unfolding decimal_in
small-in k n h = rw (lt-ltb n 10 h, decimal_in)

big-in : (k n : ℕ) → 10 ≤ n → decimal_in (suc k) n ≡ decimal_in k (n / 10) ++ ((48 + n % 10) ∷ [])
unfolding decimal_in
big-in k n h = rw (le-ltb n 10 h, decimal_in)

any-room : (k j n : ℕ) → n < k → n < j → decimal_in k n ≡ decimal_in j n
any-room zero j n h g = absurd (omega arith)
any-room (suc k) zero n h g = absurd (omega arith)
any-room (suc k) (suc j) n h g = cases (dec_lt n 10) (λ b. any-room k j (n / 10) (omega arith) (omega arith))
  where
    cases : Dec (n < 10) → (10 ≤ n → decimal_in k (n / 10) ≡ decimal_in j (n / 10)) → decimal_in (suc k) n ≡ decimal_in (suc j) n
    cases (yes l) f = small-in k n l ∙ sym (small-in j n l)
    cases (no l) f = let b : 10 ≤ n = omega arith in rw (big-in k n b, big-in j n b, f b)

pub decimal-small : (n : ℕ) → n < 10 → decimal n ≡ (48 + n) ∷ []
unfolding decimal
decimal-small n h = small-in n n h

pub decimal-big : (n : ℕ) → 10 ≤ n → decimal n ≡ decimal (n / 10) ++ ((48 + n % 10) ∷ [])
unfolding decimal
decimal-big n h = big-in n n h ∙ rw (any-room n (suc (n / 10)) (n / 10) (omega arith) (omega arith))

-- what holds of one digit, and of a number where it holds of the number without its last digit, holds of all
pub decimal-ind {ℓ} : (P : ℕ → Type ℓ) → ((n : ℕ) → n < 10 → P n) → ((n : ℕ) → 10 ≤ n → P (n / 10) → P n) → (n : ℕ) → P n
decimal-ind P base step n = go (suc n) n (omega arith)
  where
    go : (k m : ℕ) → m < k → P m
    go zero m h = absurd (omega arith)
    go (suc k) m h = split (dec_lt m 10) (λ b. go k (m / 10) (omega arith))
      where
        split : Dec (m < 10) → (10 ≤ m → P (m / 10)) → P m
        split (yes l) f = base m l
        split (no l) f = let b : 10 ≤ m = omega arith in step m b (f b)

pub decimal-length-small : (n : ℕ) → n < 10 → length (decimal n) ≡ 1
decimal-length-small n h = rw (decimal-small n h)

pub decimal-length-big : (n : ℕ) → 10 ≤ n → length (decimal n) ≡ length (decimal (n / 10)) + 1
decimal-length-big n h = rw (decimal-big n h, length-append)

pub decimal-some : (n : ℕ) → 0 < length (decimal n)
decimal-some =
    decimal-ind (λ n. 0 < length (decimal n))
    (λ n h. omega (arith, decimal-length-small n h))
    (λ n h e. omega (arith, decimal-length-big n h))

pub decimal-length-most : (n : ℕ) → length (decimal n) ≤ n + 1
decimal-length-most =
    decimal-ind (λ n. length (decimal n) ≤ n + 1)
    (λ n h. omega (arith, decimal-length-small n h))
    (λ n h e. omega (arith, decimal-length-big n h))

pub value-decimal : (n : ℕ) → value (decimal n) ≡ n
unfolding value_on
value-decimal =
    decimal-ind (λ n. value (decimal n) ≡ n)
    (λ n h. one n h)
    (λ n h e. rw (decimal-big n h, value-snoc 0 (decimal (n / 10)) (48 + n % 10), e) (omega arith))
  where
    one : (n : ℕ) → n < 10 → value (decimal n) ≡ n
    one n h = rw (decimal-small n h) (omega arith)

pub leading-decimal : (n : ℕ) (t : List ℕ) → leading (decimal n ++ t) ≡ decimal n ++ leading t
leading-decimal =
    decimal-ind (λ n. (t : List ℕ) → leading (decimal n ++ t) ≡ decimal n ++ leading t)
    (λ n h t. rw (decimal-small n h) (leading-digit (48 + n) t (omega arith) (omega arith)))
    (λ n h e t. rw (decimal-big n h) (simp append_assoc (rw (e, leading-digit (48 + n % 10) t (omega arith) (omega arith)))))

-- ---- the text of an integer

pub integer-text-negative : (z : ℤ) → lt_z z (pos 0) ≡ true → integer_text z ≡ minus ∷ decimal (nat_abs z)
integer-text-negative (pos n) t = let h : n < 0 = ltb-true n 0 t in absurd (omega arith)
integer-text-negative (negsuc n) t = refl

pub integer-text-positive : (z : ℤ) → lt_z z (pos 0) ≡ false → integer_text z ≡ decimal (nat_abs z)
integer-text-positive (pos n) t = refl
integer-text-positive (negsuc n) t = never cc

-- ---- what is printed reads back, whatever stands behind it, if that is no digit

-- the digits of a count: all of them, and their value is the count (`value-decimal`)
pub read-of-counted : (n : ℕ) (rest : List ℕ) → leading rest ≡ [] → leading (decimal n ++ rest) ≡ decimal n
read-of-counted n rest e = leading-decimal n rest ∙ rw (e, append-nil)

printed-digits : (negative : Bool) (k n : ℕ) (rest : List ℕ) → SFits w64 (signed negative n) → leading rest ≡ []
    → ended negative k (leading (decimal n ++ rest)) ≡ got (signed negative n) (k + length (decimal n))
printed-digits negative k n rest f e =
    let v = value-decimal n in
    rw (read-of-counted n rest e)
    (ended-got negative k (decimal n) (λ q. omega (arith, decimal-some n)) (rw v (in-true _ f)) ∙ rw v)

pub read-of-printed : (z : ℤ) (rest : List ℕ) → SFits w64 z → leading rest ≡ []
    → number (integer_text z ++ rest) ≡ got z (length (integer_text z))
read-of-printed (pos n) rest f e =
    let some : 0 < length (leading (decimal n ++ rest)) = rw (read-of-counted n rest e) (decimal-some n) in
    let h = leading-head (decimal n ++ rest) some in
    number-unsigned (decimal n ++ rest) h.0 (λ q. omega (arith, h.1)) (λ q. omega (arith, h.1))
    ∙ printed-digits false 0 n rest f e ∙ rw zero-add
read-of-printed (negsuc n) rest f e =
    number-minus (minus ∷ (decimal (suc n) ++ rest)) (omega arith) refl
    ∙ printed-digits true 1 (suc n) rest f e ∙ rw one-add
