-- Bits of words: a word with one bit made has that bit, keeps the others and stays as wide; and so for the bit of a
-- variable in a row of words.
use Prim.Native.Nat.{ℕ, suc, ◌+◌, ◌-◌, ◌*◌, ◌/◌, ◌%◌, ◌^◌, ◌≤◌, ◌<◌}
use mathlib.Core.Path.{◌≡◌, refl, sym, ap, ◌∙◌}
use mathlib.Core.Bool.{Bool, true, false, cond}
use mathlib.Core.List.{List}
use native.Mathlib.Omega.{arith}
use native.Mathlib.Decide.{dec_lt}
use native.Mathlib.Nat.{mod-lt, mul-add-div_right, mul-add-mod_self_right, mul_assoc, add-mul, mod-le, pow-suc, zero-div, mul-le-mul_right}
use borrow.Author.Tests.{eq-eqb, ne_eqb, eqb-true, eqb-false}
use lib.Arith.{digits_lt}
use lib.Dec.{eqb}
use lib.ListN.{length, get_or, set, length-set, get_or-eq_default}
use lib.Pow.{pow_pos, pow-add, split, high, shr_lt, shr-shr, shl_exact}
use lib.Seq.{get_or-set_same, get_or-set_other, set-get_or, set_out}
use Rattle.definitions.specs.Meaning.{assigned}
use Rattle.definitions.specs.Values.{word_with, bit_made}

-- bit k of w, as a test
abbrev pub bit_of : ℕ → ℕ → Bool
bit_of k w = eqb (w / 2 ^ k % 2) 1

-- ---- bits of one word
-- what stands from bit k on, with that bit made b
abbrev upper : Bool → ℕ → ℕ
upper b q = q - q % 2 + cond b 1 0

rest : {q : ℕ} (t : ℕ) → t ≤ q → q ≡ q - t + t
rest t h = omega arith

-- the word is that, and its k low bits
parts-of : (b : Bool) (q p r : ℕ) → (q * p + r) - q % 2 * p + cond b p 0 ≡ upper b q * p + r
parts-of b q p r = cases b
  where
    q-parts : q * p ≡ (q - q % 2) * p + q % 2 * p
    q-parts = ap (λ (x : ℕ). x * p) (rest (q % 2) (mod-le q 2)) ∙ add-mul (q - q % 2) (q % 2) p

    cases : (b : Bool) → (q * p + r) - q % 2 * p + cond b p 0 ≡ upper b q * p + r
    cases true = omega (arith, q-parts, add-mul (q - q % 2) 1 p)
    cases false = omega (arith, q-parts, add-mul (q - q % 2) 0 p)

with-parts : (b : Bool) (k w : ℕ) → word_with b k w ≡ upper b (w / 2 ^ k) * 2 ^ k + w % 2 ^ k
with-parts b k w =
    ap (λ (x : ℕ). x - w / 2 ^ k % 2 * 2 ^ k + cond b (2 ^ k) 0) (sym (split w k)) ∙ parts-of b (w / 2 ^ k) (2 ^ k) (w % 2 ^ k)

-- what stands from bit k on
with-upper : (b : Bool) (k w : ℕ) → word_with b k w / 2 ^ k ≡ upper b (w / 2 ^ k)
with-upper b k w = ap (λ (x : ℕ). x / 2 ^ k) (with-parts b k w) ∙ high (upper b (w / 2 ^ k)) k (mod-lt w (pow_pos k))

upper-bit : (b : Bool) (q : ℕ) → eqb (upper b q % 2) 1 ≡ b
upper-bit true q = eq-eqb (upper true q % 2) 1 (omega arith)
upper-bit false q = ne_eqb (upper false q % 2) 1 (λ h. omega arith)

upper-half : (b : Bool) (q : ℕ) → upper b q / 2 ≡ q / 2
upper-half true q = omega arith
upper-half false q = omega arith

-- bit k itself
pub with-same : (b : Bool) (k w : ℕ) → bit_of k (word_with b k w) ≡ b
with-same b k w = ap (λ (x : ℕ). eqb (x % 2) 1) (with-upper b k w) ∙ upper-bit b (w / 2 ^ k)

-- a bit above
above : (w k d : ℕ) → w / 2 ^ (k + (1 + d)) ≡ w / 2 ^ k / 2 / 2 ^ d
above w k d = sym (shr-shr w k (1 + d)) ∙ sym (shr-shr (w / 2 ^ k) 1 d)

with-above : (b : Bool) (k d w : ℕ) → word_with b k w / 2 ^ (k + (1 + d)) % 2 ≡ w / 2 ^ (k + (1 + d)) % 2
with-above b k d w =
    ap (λ (x : ℕ). x % 2) (above (word_with b k w) k d)
    ∙ ap (λ (x : ℕ). x / 2 / 2 ^ d % 2) (with-upper b k w)
    ∙ ap (λ (x : ℕ). x / 2 ^ d % 2) (upper-half b (w / 2 ^ k))
    ∙ ap (λ (x : ℕ). x % 2) (sym (above w k d))

-- a bit below does not look at what stands above it
low_bit : (a r d j : ℕ) → (a * 2 ^ (suc d + j) + r) / 2 ^ j % 2 ≡ r / 2 ^ j % 2
low_bit a r d j =
    ap (λ (x : ℕ). (x + r) / 2 ^ j % 2) (ap (λ (x : ℕ). a * x) (pow-add 2 (suc d) j) ∙ sym (mul_assoc a (2 ^ suc d) (2 ^ j)))
    ∙ ap (λ (x : ℕ). x % 2) (mul-add-div_right (pow_pos j) (a * 2 ^ suc d) r)
    ∙ ap (λ (x : ℕ). (x + r / 2 ^ j) % 2) (ap (λ (x : ℕ). a * x) (pow-suc 2 d) ∙ sym (mul_assoc a (2 ^ d) 2))
    ∙ mul-add-mod_self_right (a * 2 ^ d) 2 (r / 2 ^ j)

with-below : (b : Bool) (d j w : ℕ) → word_with b (suc d + j) w / 2 ^ j % 2 ≡ w / 2 ^ j % 2
with-below b d j w =
    let k = suc d + j in
    ap (λ (x : ℕ). x / 2 ^ j % 2) (with-parts b k w) ∙ low_bit (upper b (w / 2 ^ k)) (w % 2 ^ k) d j
    ∙ sym (ap (λ (x : ℕ). x / 2 ^ j % 2) (sym (split w k)) ∙ low_bit (w / 2 ^ k) (w % 2 ^ k) d j)

pub with-other : (b : Bool) (j k w : ℕ) → (j ≡ k → ⊥) → word_with b k w / 2 ^ j % 2 ≡ w / 2 ^ j % 2
with-other b j k w h = cases (dec_lt j k)
  where
    cases : Dec (j < k) → word_with b k w / 2 ^ j % 2 ≡ w / 2 ^ j % 2
    cases (yes l) =
        let e : suc (k - suc j) + j ≡ k = omega arith in
        rw e at (with-below b (k - suc j) j w)
    cases (no l) =
        let n : k < j = omega (arith, h) in
        let e : k + (1 + (j - suc k)) ≡ j = omega arith in
        rw e at (with-above b k (j - suc k) w)

upper-again : (b : Bool) (q : ℕ) → eqb (q % 2) 1 ≡ b → upper b q ≡ q
upper-again true q h = omega (arith, eqb-true (q % 2) 1 h)
upper-again false q h = let n : q % 2 ≡ 1 → ⊥ = eqb-false (q % 2) 1 h in omega (arith, n)

pub with-again : (b : Bool) (k w : ℕ) → bit_of k w ≡ b → word_with b k w ≡ w
with-again b k w h = with-parts b k w ∙ ap (λ (x : ℕ). x * 2 ^ k + w % 2 ^ k) (upper-again b (w / 2 ^ k) h) ∙ split w k

-- a word of n bits stays one
upper_fits : (b : Bool) (q d : ℕ) → q < 2 ^ suc d → upper b q < 2 ^ suc d
upper_fits true q d h = omega (arith, pow-suc 2 d)
upper_fits false q d h = omega arith

fits_on : (b : Bool) (d k w : ℕ) → w < 2 ^ (suc d + k) → word_with b k w < 2 ^ (suc d + k)
fits_on b d k w h =
    let l : upper b (w / 2 ^ k) * 2 ^ k + w % 2 ^ k < 2 ^ suc d * 2 ^ k
    = digits_lt (upper_fits b (w / 2 ^ k) d (shr_lt (suc d) k h)) (mod-lt w (pow_pos k)) in
    rw (with-parts b k w, pow-add 2 (suc d) k) l

pub with-fits : (b : Bool) (n k w : ℕ) → k < n → w < 2 ^ n → word_with b k w < 2 ^ n
with-fits b n k w h l =
    let e : suc (n - suc k) + k ≡ n = omega arith in
    rw e at (fits_on b (n - suc k) k w (rw e l))

-- ---- how the code turns a bit: by its power of two
pub power : (k : ℕ) → k < 64 → (1 * 2 ^ k) % 2 ^ 64 ≡ 2 ^ k
power k h = shl_exact 1 k 64 (omega arith) (omega arith) ∙ omega arith

module _ (k w : ℕ) where
  module _ (h : w / 2 ^ k % 2 ≡ 1) where
    pub one-is : bit_of k w ≡ true
    one-is = eq-eqb (w / 2 ^ k % 2) 1 h

    pub power-within : 2 ^ k ≤ w
    power-within = omega (arith, q-within, split w k)
      where
        q-within : 1 * 2 ^ k ≤ w / 2 ^ k * 2 ^ k
        q-within = mul-le-mul_right (2 ^ k) (omega arith)

    pub power-taken : w - 2 ^ k ≡ word_with false k w
    power-taken = rw h (omega arith)

  module _ (h : w / 2 ^ k % 2 ≡ 1 → ⊥) where
    pub one-is-not : bit_of k w ≡ false
    one-is-not = ne_eqb (w / 2 ^ k % 2) 1 h

    pub power-added : w + 2 ^ k ≡ word_with true k w
    power-added = let z : w / 2 ^ k % 2 ≡ 0 = omega (arith, h) in rw z (omega arith)

    pub added-fits : k < 64 → w < 2 ^ 64 → w + 2 ^ k < 2 ^ 64
    added-fits l f = rw power-added (with-fits true 64 k w l f)

-- ---- the bit of a variable
pub bit-of : (v : ℕ) (ws : List ℕ) → bit_of (v % 64) (get_or ws (v / 64) 0) ≡ assigned ws v
unfolding assigned
bit-of v ws = refl

-- beyond the words it is 0, and making it changes nothing
pub bit-beyond : (v : ℕ) (ws : List ℕ) → length ws ≤ v / 64 → false ≡ assigned ws v
unfolding assigned
bit-beyond v ws h = rw (get_or-eq_default ws 0 h, zero-div (2 ^ (v % 64)))

pub made-beyond : (b : Bool) (v : ℕ) (ws : List ℕ) → length ws ≤ v / 64 → ws ≡ bit_made b v ws
unfolding bit_made
made-beyond b v ws h = sym (set_out ws (v / 64) _ h)

pub made_in : (b : Bool) (v w : ℕ) (ws : List ℕ) → w ≡ word_with b (v % 64) (get_or ws (v / 64) 0) → set ws (v / 64) w ≡ bit_made b v ws
unfolding bit_made
made_in b v w ws e = ap (set ws (v / 64)) e

pub length-made : (b : Bool) (v : ℕ) (ws : List ℕ) → length (bit_made b v ws) ≡ length ws
unfolding bit_made
length-made b v ws = length-set ws (v / 64) _

pub made_again : (b : Bool) (v : ℕ) (ws : List ℕ) → assigned ws v ≡ b → bit_made b v ws ≡ ws
unfolding bit_made assigned
made_again b v ws h = ap (set ws (v / 64)) (with-again b (v % 64) (get_or ws (v / 64) 0) h) ∙ set-get_or ws (v / 64) 0

-- in its word it is the bit made, or another one
in-word : (b : Bool) (v u : ℕ) (w : ℕ) → u / 64 ≡ v / 64 → bit_of (u % 64) (word_with b (v % 64) w) ≡ cond (eqb u v) b (bit_of (u % 64) w)
in-word b v u w e = cases (eqb u v) refl
  where
    cases : (t : Bool) → eqb u v ≡ t → bit_of (u % 64) (word_with b (v % 64) w) ≡ cond t b (bit_of (u % 64) w)
    cases true h = rw (eqb-true u v h) (with-same b (v % 64) w)
    cases false h =
        let n : u ≡ v → ⊥ = eqb-false u v h in
        ap (λ (x : ℕ). eqb x 1) (with-other b (u % 64) (v % 64) w (λ f. n (omega arith)))

pub bit-made : (b : Bool) (v u : ℕ) (ws : List ℕ) → v / 64 < length ws → assigned (bit_made b v ws) u ≡ cond (eqb u v) b (assigned ws u)
unfolding bit_made assigned
bit-made b v u ws l = cases (eqb (u / 64) (v / 64)) refl
  where
    w : ℕ
    w = word_with b (v % 64) (get_or ws (v / 64) 0)

    cases : (t : Bool) → eqb (u / 64) (v / 64) ≡ t
        → bit_of (u % 64) (get_or (set ws (v / 64) w) (u / 64) 0) ≡ cond (eqb u v) b (bit_of (u % 64) (get_or ws (u / 64) 0))
    cases true h =
        let e : u / 64 ≡ v / 64 = eqb-true (u / 64) (v / 64) h in
        rw (e, get_or-set_same ws (v / 64) w 0 l) (in-word b v u (get_or ws (v / 64) 0) e)
    cases false h =
        let n : u / 64 ≡ v / 64 → ⊥ = eqb-false (u / 64) (v / 64) h in
        rw (get_or-set_other ws (v / 64) (u / 64) w 0 n, ne_eqb u v (λ e. n (ap (λ (x : ℕ). x / 64) e)))
