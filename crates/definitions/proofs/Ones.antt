-- Is the machine's count of ones the definition's count of true variables? Word by word.
use mathlib.Core.Path.{◌≡◌, refl, sym, ap, ◌∙◌}
use mathlib.Core.Bool.{Bool, cond}
use mathlib.Core.List.{List, [], ◌∷◌}
use Prim.Native.Nat.{ℕ, zero, suc, ◌+◌, ◌*◌, ◌/◌, ◌%◌, ◌^◌, ◌≤◌, ◌<◌}
use native.Mathlib.Nat.{mod-lt, mod-eq_of_lt, add_comm}
use native.Mathlib.Numerals.{one-add}
use native.Mathlib.Omega.{arith}
use lib.Dec.{eqb}
use lib.ListN.{length}
use lib.Count.{ones, ones_in, ones_cat}
use lib.Pow.{pow_pos, mod-pow-add}
use Rattle.definitions.specs.Lists.{AllOf}
use Rattle.definitions.specs.Meaning.{assigned, true_below, ones_of}

-- ---- one word: the ones of the bits below k
abbrev bit_at : ℕ → ℕ → ℕ
bit_at x v = x / 2 ^ v % 2

bits_below : ℕ → ℕ → ℕ
bits_below zero x = 0
bits_below (suc k) x = bits_below k x + bit_at x k

ones_bit : (b : ℕ) → b < 2 → ones b ≡ b
unfolding ones ones_in
ones_bit zero h = refl
ones_bit (suc zero) h = refl
ones_bit (suc (suc b)) h = absurd (omega arith)

ones-zero : (n : ℕ) → n < 1 → ones n ≡ 0
unfolding ones ones_in
ones-zero zero h = refl
ones-zero (suc n) h = absurd (omega arith)

ones_below : (k x : ℕ) → ones (x % 2 ^ k) ≡ bits_below k x
unfolding bits_below
ones_below zero x = ones-zero (x % 1) (mod-lt x (omega arith))
ones_below (suc k) x =
    let e : x % 2 ^ suc k ≡ bit_at x k * 2 ^ k + x % 2 ^ k = ap (λ (j : ℕ). x % 2 ^ j) (sym (one-add k)) ∙ mod-pow-add x 1 k in
    rw (e, ones_cat k (bit_at x k) (x % 2 ^ k) (mod-lt x (pow_pos k)), ones_bit (bit_at x k) (omega arith), ones_below k x)
    (add_comm (bit_at x k) (bits_below k x))

ones-word : (x : ℕ) → x < 2 ^ 64 → ones x ≡ bits_below 64 x
ones-word x h = ap ones (sym (mod-eq_of_lt h)) ∙ ones_below 64 x

-- ---- the variables of the first word, and those behind it
bit-counts : (x : ℕ) → x < 2 → cond (eqb x 1) 1 0 ≡ x
bit-counts zero h = refl
bit-counts (suc zero) h = refl
bit-counts (suc (suc x)) h = absurd (omega arith)

assigned-here : (w : ℕ) (ws : List ℕ) (v : ℕ) → v < 64 → assigned (w ∷ ws) v ≡ eqb (bit_at w v) 1
unfolding assigned
assigned-here w ws v h =
    let q : v / 64 ≡ 0 = omega arith in
    let r : v % 64 ≡ v = omega arith in
    rw (q, r)

assigned-behind : (w : ℕ) (ws : List ℕ) (v : ℕ) → assigned (w ∷ ws) (64 + v) ≡ assigned ws v
unfolding assigned
assigned-behind w ws v =
    let q : (64 + v) / 64 ≡ suc (v / 64) = omega arith in
    let r : (64 + v) % 64 ≡ v % 64 = omega arith in
    rw (q, r)

true-here : (w : ℕ) (ws : List ℕ) (k : ℕ) → k ≤ 64 → true_below (assigned (w ∷ ws)) k ≡ bits_below k w
unfolding true_below bits_below
true-here w ws zero h = refl
true-here w ws (suc k) h =
    rw (true-here w ws k (omega arith), assigned-here w ws k h, bit-counts (bit_at w k) (mod-lt (w / 2 ^ k) (omega arith)))

-- the true ones among m + k variables: among the first m, and among those behind
pub true-split : (a : ℕ → Bool) (m k : ℕ) → true_below a (m + k) ≡ true_below a m + true_below (λ v. a (m + v)) k
unfolding true_below
true-split a m zero = let e : m + 0 ≡ m = omega arith in rw e (omega arith)
true-split a m (suc k) =
    let s : m + suc k ≡ suc (m + k) = omega arith in
    rw (s, true_below, true-split a m k) (omega arith)

pub true-alike : (a b : ℕ → Bool) (k : ℕ) → ((v : ℕ) → v < k → a v ≡ b v) → true_below a k ≡ true_below b k
unfolding true_below
true-alike a b zero e = refl
true-alike a b (suc k) e = rw (true-alike a b k (λ v h. e v (omega arith)), e k (omega arith))

true-behind : (w : ℕ) (ws : List ℕ) (k : ℕ)
    → true_below (assigned (w ∷ ws)) (64 + k) ≡ true_below (assigned (w ∷ ws)) 64 + true_below (assigned ws) k
true-behind w ws k =
    true-split (assigned (w ∷ ws)) 64 k
    ∙ ap (λ (n : ℕ). true_below (assigned (w ∷ ws)) 64 + n)
    (true-alike (λ v. assigned (w ∷ ws) (64 + v)) (assigned ws) k (λ v h. assigned-behind w ws v))

-- the sum that the code makes
unfoldable pub ones_summed : List ℕ → ℕ
ones_summed [] = 0
ones_summed (w ∷ ws) = ones w + ones_summed ws

abbrev pub Word : ℕ → Type 0
Word w = w < 2 ^ 64

pub ones-counted : (ws : List ℕ) → AllOf Word ws → ones_of ws ≡ ones_summed ws
unfolding ones_of ones_summed
ones-counted [] h = none_true (assigned [])
  where
    none_true : (a : ℕ → Bool) → true_below a 0 ≡ 0
    none_true a = unfold true_below in refl
ones-counted (w ∷ ws) h =
    let n : 64 * length (w ∷ ws) ≡ 64 + 64 * length ws = omega arith in
    rw (n, true-behind w ws (64 * length ws), true-here w ws 64 (omega arith), ← ones-word w h.0)
    (ap (λ (k : ℕ). ones w + k) (ones-counted ws h.1))
