-- Which variables have a value: those that the words hold and whose bit is known.
use mathlib.Core.Path.{◌≡◌, refl, sym, ap, fun_ext, ◌∙◌}
use mathlib.Core.Bool.{Bool, true, false}
use mathlib.Core.List.{List}
use Prim.Native.Nat.{ℕ, suc, ◌+◌, ◌-◌, ◌*◌, ◌/◌, ◌%◌, ◌^◌, ◌≤◌, ◌<◌, min}
use native.Mathlib.Nat.{pow-suc}
use native.Mathlib.Omega.{arith}
use native.Mathlib.Decide.{dec_lt, dec_le}
use borrow.Author.Tests.{lt-ltb, le-ltb}
use lib.Dec.{eqb}
use lib.ListN.{length, take, length-take}
use lib.Seq.{take_all, get_or-take}
use lib.Pow.{pow_pos, high, ones_lt, ones_split}
use Rattle.std.specs.Prelude.{Option, Some, None, option_map}
use Rattle.definitions.specs.Limits.{word_limit}
use Rattle.definitions.specs.Literal.{index_of}
use Rattle.definitions.specs.Meaning.{assigned, is_known}
use Rattle.definitions.specs.Evaluate.{within}
use Rattle.definitions.proofs.Truths.{both}
use Rattle.term_checks.proofs.Every.{every-less}
use Rattle.assigned.specs.WordsSay.{looked, known_word, has_by, codes_covered}

-- bit k of a word
abbrev pub bit_of : ℕ → ℕ → Bool
bit_of x k = eqb (x / 2 ^ k % 2) 1

-- a word of ones has each
ones_bit : (j k : ℕ) → (2 ^ (suc j + k) - 1) / 2 ^ k % 2 ≡ 1
ones_bit j k =
    ap (λ (n : ℕ). n / 2 ^ k % 2) (ones_split (suc j) k)
    ∙ ap (λ (n : ℕ). n % 2) (high (2 ^ suc j - 1) k (ones_lt k))
    ∙ ap (λ (n : ℕ). (n - 1) % 2) (pow-suc 2 j)
    ∙ omega (arith, pow_pos j)

pub full-bit : (k : ℕ) → k < 64 → bit_of (2 ^ 64 - 1) k ≡ true
full-bit k h =
    let e : suc (63 - k) + k ≡ 64 = omega arith in
    ap (λ (n : ℕ). eqb n 1) (ap (λ (n : ℕ). (2 ^ n - 1) / 2 ^ k % 2) (sym e) ∙ ones_bit (63 - k) k)

module _ (ws : List ℕ) (v : ℕ) where
  pub has-beyond : (known : Option (List ℕ)) → length ws ≤ v / 64 → has_by known ws v ≡ false
  unfolding is_known
  has-beyond None h = le-ltb v (64 * length ws) (omega arith)
  has-beyond (Some ks) h = rw (le-ltb v (64 * length ws) (omega arith))

  pub has_there : (known : Option (List ℕ)) → v / 64 < length ws → has_by known ws v ≡ bit_of (known_word known (v / 64)) (v % 64)
  unfolding is_known assigned
  has_there None h = lt-ltb v (64 * length ws) (omega arith) ∙ sym (full-bit (v % 64) (omega arith))
  has_there (Some ks) h = rw (lt-ltb v (64 * length ws) (omega arith))

  -- whatever has a value is held by the words
  has_within : (known : Option (List ℕ)) → has_by known ws v ≡ true → within ws v ≡ true
  unfolding is_known
  has_within None e = e
  has_within (Some ks) e = (both (within ws v) (assigned ks v) e).0

pub covered-within : (known : Option (List ℕ)) (ws cs : List ℕ) → codes_covered (has_by known ws) cs ≡ true
    → codes_covered (within ws) cs ≡ true
covered-within known ws cs e =
    every-less (λ c. has_by known ws (index_of c)) (λ c. within ws (index_of c)) (λ c h. has_within ws (index_of c) known h) cs e

-- ---- the words that are looked at

pub taken-looked : (ws : List ℕ) → take (min (length ws) word_limit) ws ≡ looked ws
unfolding looked
taken-looked ws = cases (dec_le (length ws) word_limit)
  where
    cases : Dec (length ws ≤ word_limit) → take (min (length ws) word_limit) ws ≡ take word_limit ws
    cases (yes h) = take_all (min (length ws) word_limit) ws (omega arith) ∙ sym (take_all word_limit ws h)
    cases (no h) = let e : min (length ws) word_limit ≡ word_limit = omega arith in rw e

-- beyond the words that are looked at the known words do not matter
known-looked : (ws ks : List ℕ) (v : ℕ) → is_known (looked ws) ks v ≡ is_known (looked ws) (looked ks) v
unfolding is_known assigned looked
known-looked ws ks v = cases (dec_lt v (64 * length (take word_limit ws)))
  where
    cases : Dec (v < 64 * length (take word_limit ws)) → is_known (take word_limit ws) ks v ≡ is_known (take word_limit ws) (take word_limit ks) v
    cases (yes h) = rw (get_or-take word_limit ks (v / 64) 0 (omega (arith, length-take word_limit ws)))
    cases (no h) = rw (le-ltb v (64 * length (take word_limit ws)) (omega arith))

pub has-looked : (known : Option (List ℕ)) (ws : List ℕ) → has_by known (looked ws) ≡ has_by (option_map looked known) (looked ws)
has-looked None ws = refl
has-looked (Some ks) ws = fun_ext (known-looked ws ks)
