-- `evaluating` is the case of `evaluating_known` where all that the words hold is known: the one answer is the other.
use mathlib.Core.Path.{◌≡◌, sym, ap, ap₂, fun_ext, ◌∙◌}
use mathlib.Core.Bool.{Bool, true, ◌&&◌}
use mathlib.Core.List.{List}
use Prim.Native.Nat.{ℕ, ◌*◌, ◌/◌, ◌%◌, ◌-◌, ◌^◌, ◌<◌}
use native.Mathlib.Omega.{arith}
use native.Mathlib.Decide.{dec_lt}
use borrow.Author.Tests.{lt-ltb, le-ltb}
use lib.ListN.{length, take, replicate, length-take, get_or-replicate}
use lib.Seq.{get_or-take}
use Rattle.definitions.specs.Limits.{word_limit}
use Rattle.definitions.specs.Table.{Table}
use Rattle.definitions.specs.Meaning.{assigned, ones_of, is_known}
use Rattle.definitions.specs.Evaluate.{evaluating_by, within, evaluating, known_ones, evaluating_known}
use Rattle.definitions.proofs.Ones.{true-alike}
use Rattle.assigned.proofs.Known.{bit_of, full-bit}

-- ---- of words that are all looked at

module _ (ws ks : List ℕ) (all : (v : ℕ) → v < 64 * length ws → assigned ks v ≡ true) where
  known-within : (v : ℕ) → is_known ws ks v ≡ within ws v
  unfolding is_known
  known-within v = cases (dec_lt v (64 * length ws))
    where
      cases : Dec (v < 64 * length ws) → within ws v && assigned ks v ≡ within ws v
      cases (yes h) = rw (lt-ltb v (64 * length ws) h, all v h)
      cases (no h) = rw (le-ltb v (64 * length ws) (omega arith))

  known-ones : known_ones ws ks ≡ ones_of ws
  unfolding known_ones ones_of
  known-ones =
      true-alike (λ v. is_known ws ks v && assigned ws v) (assigned ws) (64 * length ws)
      (λ v h. rw (known-within v, lt-ltb v (64 * length ws) h))

  known-all : (t : Table) (i : ℕ)
      → evaluating_by (within ws) (assigned ws) (ones_of ws) t i ≡ evaluating_by (is_known ws ks) (assigned ws) (known_ones ws ks) t i
  known-all t i =
      let p : is_known ws ks ≡ within ws = fun_ext known-within in
      sym (ap₂ (λ (has : ℕ → Bool) (n : ℕ). evaluating_by has (assigned ws) n t i) p known-ones)

-- ---- of any words

looked-known : (ws ks : List ℕ) → ((v : ℕ) → v < 64 * length (take word_limit ws) → assigned ks v ≡ true)
    → (v : ℕ) → v < 64 * length (take word_limit ws) → assigned (take word_limit ks) v ≡ true
unfolding assigned
looked-known ws ks all v h =
    ap (λ (x : ℕ). bit_of x (v % 64)) (get_or-take word_limit ks (v / 64) 0 (omega (arith, h, length-take word_limit ws))) ∙ all v h

-- where every variable of the words that are looked at is known
pub all_known : (t : Table) (i : ℕ) (ws ks : List ℕ) → ((v : ℕ) → v < 64 * length (take word_limit ws) → assigned ks v ≡ true)
    → evaluating t i ws ≡ evaluating_known t i ws ks
unfolding evaluating evaluating_known
all_known t i ws ks all = known-all (take word_limit ws) (take word_limit ks) (looked-known ws ks all) t i

-- so with a word of ones for each
pub all_ones : (t : Table) (i : ℕ) (ws : List ℕ) → evaluating t i ws ≡ evaluating_known t i ws (replicate (length ws) (2 ^ 64 - 1))
unfolding assigned
all_ones t i ws =
    all_known t i ws (replicate (length ws) (2 ^ 64 - 1))
    (λ v h. ap (λ (x : ℕ). bit_of x (v % 64))
    (get_or-replicate (length ws) (v / 64) (2 ^ 64 - 1) 0 (omega (arith, h, length-take word_limit ws)))
    ∙ full-bit (v % 64) (omega arith))
