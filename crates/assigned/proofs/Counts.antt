-- The walk over words that counts their ones, of those that are known.
use mathlib.Core.Path.{◌≡◌, refl, sym, ap, ap₂, ◌∙◌}
use mathlib.Core.Bool.{Bool, ◌&&◌}
use mathlib.Core.List.{List, [], ◌∷◌}
use Prim.Native.Nat.{ℕ, zero, suc, ◌+◌, ◌*◌, ◌/◌, ◌%◌, ◌^◌, ◌≤◌, ◌<◌, min}
use native.Mathlib.Omega.{arith}
use borrow.Author.Tests.{lt-ltb}
use lib.Bits.{bit_and, and_step, and_shr, and_le_l}
use lib.Count.{ones, ones-le}
use lib.Dec.{eqb}
use lib.ListN.{length, get_or}
use Rattle.std.specs.Prelude.{Option, Some, None, option_map, take, min}
use Rattle.definitions.specs.Limits.{word_limit}
use Rattle.definitions.specs.Meaning.{assigned, true_below, ones_of}
use Rattle.definitions.specs.Evaluate.{known_ones}
use Rattle.definitions.proofs.Ones.{true-split, true-alike, ones_summed, ones-counted}
use Rattle.assigned.specs.WordsSay.{looked, known_word, has_by, ones_by}
use Rattle.assigned.proofs.Known.{bit_of, has_there, has-looked, taken-looked}

-- ---- one word

both_bits : (x y : ℕ) → x < 2 → y < 2 → eqb (min x y) 1 ≡ eqb y 1 && eqb x 1
both_bits zero zero h g = refl
both_bits zero (suc zero) h g = refl
both_bits (suc zero) zero h g = refl
both_bits (suc zero) (suc zero) h g = refl
both_bits (suc (suc x)) y h g = absurd (omega arith)
both_bits zero (suc (suc y)) h g = absurd (omega arith)
both_bits (suc zero) (suc (suc y)) h g = absurd (omega arith)

-- a bit of both words
and-bit : (x y k : ℕ) → bit_of (bit_and x y) k ≡ bit_of y k && bit_of x k
and-bit x y k =
    let p = x / 2 ^ k in
    let q = y / 2 ^ k in
    let f : p % 2 < 2 = omega arith in
    let g : q % 2 < 2 = omega arith in
    let e : bit_and p q % 2 ≡ min (p % 2) (q % 2) = omega (arith, and_step p q) in
    ap (λ (n : ℕ). eqb (n % 2) 1) (and_shr x y k) ∙ ap (λ (n : ℕ). eqb n 1) e ∙ both_bits (p % 2) (q % 2) f g

only-word : (x k : ℕ) → k < 64 → assigned (x ∷ []) k ≡ bit_of x k
unfolding assigned
only-word x k h =
    let q : k / 64 ≡ 0 = omega arith in
    let r : k % 64 ≡ k = omega arith in
    rw (q, r)

whole_word : (x : ℕ) → x < 2 ^ 64 → true_below (assigned (x ∷ [])) 64 ≡ ones x
unfolding ones_of ones_summed
whole_word x h = ones-counted (x ∷ []) (h, tt) ∙ omega arith

-- the ones of a word are its bits
word-bits : (p : ℕ → Bool) (x : ℕ) → x < 2 ^ 64 → ((k : ℕ) → k < 64 → p k ≡ bit_of x k) → true_below p 64 ≡ ones x
word-bits p x h e = true-alike p (assigned (x ∷ [])) 64 (λ k g. e k g ∙ sym (only-word x k g)) ∙ whole_word x h

-- ---- word by word

-- the variables that are known and true
abbrev known_true : Option (List ℕ) → List ℕ → ℕ → Bool
known_true known ws v = has_by known ws v && assigned ws v

-- after i words, n ones
pub record Counted (known : Option (List ℕ)) (ws : List ℕ) (i n : ℕ) : Type 0 where
  pub few : n ≤ 64 * i
  pub ones : n ≡ true_below (known_true known ws) (64 * i)

module _ (known : Option (List ℕ)) (ws : List ℕ) where
  pub counted_none : Counted known ws 0 0
  unfolding true_below
  counted_none = record { few = omega arith; ones = refl }

  -- the bits of word i
  bit_at : (i : ℕ) → i < length ws → (k : ℕ) → k < 64
      → known_true known ws (64 * i + k) ≡ bit_of (bit_and (get_or ws i 0) (known_word known i)) k
  unfolding assigned
  bit_at i h k g =
      let q : (64 * i + k) / 64 ≡ i = omega arith in
      let r : (64 * i + k) % 64 ≡ k = omega arith in
      rw (has_there ws (64 * i + k) known (omega arith), q, r) (sym (and-bit (get_or ws i 0) (known_word known i) k))

  pub counted-more : (i n : ℕ) → Counted known ws i n → i < length ws → get_or ws i 0 < 2 ^ 64
      → Counted known ws (i + 1) (n + ones (bit_and (get_or ws i 0) (known_word known i)))
  counted-more i n c h g =
      let x = bit_and (get_or ws i 0) (known_word known i) in
      let f : x < 2 ^ 64 = omega (arith, and_le_l (get_or ws i 0) (known_word known i)) in
      let e : 64 * (i + 1) ≡ 64 * i + 64 = omega arith in
      record {
        few = omega (arith, c.few, ones-le 64 x f);
        ones =
            rw e (ap₂ (λ (a b : ℕ). a + b) c.ones (sym (word-bits (λ k. known_true known ws (64 * i + k)) x f (bit_at i h)))
            ∙ sym (true-split (known_true known ws) (64 * i) 64));
      }

-- where all are known they are the words' ones
ones_is : (known : Option (List ℕ)) (ws : List ℕ) → true_below (known_true known ws) (64 * length ws) ≡ ones_by known ws
unfolding ones_of known_ones
ones_is None ws = true-alike (known_true None ws) (assigned ws) (64 * length ws) (λ v h. rw (lt-ltb v (64 * length ws) h))
ones_is (Some ks) ws = refl

-- of all the words that are looked at
counted-looked : (known : Option (List ℕ)) (ws : List ℕ) (i n : ℕ) → Counted known (looked ws) i n → i ≡ length (looked ws)
    → n ≡ ones_by (option_map looked known) (looked ws)
counted-looked known ws i n c e =
    c.ones
    ∙ ap (λ (m : ℕ). true_below (known_true known (looked ws)) (64 * m)) e
    ∙ ap (λ (has : ℕ → Bool). true_below (λ v. has v && assigned (looked ws) v) (64 * length (looked ws))) (has-looked known ws)
    ∙ ones_is (option_map looked known) (looked ws)

pub counted-all : (known : Option (List ℕ)) (ws : List ℕ) (m i n : ℕ) → m ≡ min (length ws) word_limit → Counted known (take m ws) i n
    → i ≡ length (take m ws) → n ≡ ones_by (option_map looked known) (looked ws)
counted-all known ws m i n h =
    let e : take m ws ≡ looked ws = rw h (taken-looked ws) in rw e (counted-looked known ws i n)
