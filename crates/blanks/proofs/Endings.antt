-- Line endings: what stands at a place of a text, and the text before the first, which a walk finds that looks for LF and
-- back at the byte before it.
use Prim.Native.Nat.{ℕ, zero, suc, ◌+◌, ◌-◌, ◌≤◌, ◌<◌}
use mathlib.Core.Path.{◌≡◌, sym}
use mathlib.Core.Bool.{and-false}
use mathlib.Core.List.{List, ◌∷◌}
use native.Mathlib.Omega.{arith}
use native.Mathlib.Numerals.{add-one}
use borrow.Author.Tests.{ne_eqb}
use lib.ListN.{length, get_or, drop, drop_of_length-le}
use lib.Seq.{drop-cons}
use Rattle.definitions.specs.Bytes.{lf, cr, is_at, line_ending, until_ending}

-- ---- the line ending at place i
module _ (s : List ℕ) (i : ℕ) where
  pub nothing_left : length s ≤ i → line_ending (drop i s) ≡ 0
  unfolding line_ending
  nothing_left h = rw (drop_of_length-le s h)

  module _ (h : i < length s) where
    pub ends-lf : get_or s i 0 ≡ lf → line_ending (drop i s) ≡ 1
    unfolding line_ending
    ends-lf e = rw (drop-cons s i 0 h, e)

    -- an LF must stand behind a CR
    pub ends-cr-lf : get_or s i 0 ≡ cr → suc i < length s → get_or s (suc i) 0 ≡ lf → line_ending (drop i s) ≡ 2
    unfolding line_ending is_at
    ends-cr-lf e g f = rw (drop-cons s i 0 h, e, drop-cons s (suc i) 0 g, f)

    module _ (n : get_or s i 0 ≡ lf → ⊥) where
      pub no-cr : (get_or s i 0 ≡ cr → ⊥) → line_ending (drop i s) ≡ 0
      unfolding line_ending
      no-cr e = rw (drop-cons s i 0 h, ne_eqb (get_or s i 0) lf n, ne_eqb (get_or s i 0) cr e)

      pub cr-at-end : length s ≤ suc i → line_ending (drop i s) ≡ 0
      unfolding line_ending is_at
      cr-at-end g = rw (drop-cons s i 0 h, ne_eqb (get_or s i 0) lf n, drop_of_length-le s g) (simp and-false)

      pub cr-alone : suc i < length s → (get_or s (suc i) 0 ≡ lf → ⊥) → line_ending (drop i s) ≡ 0
      unfolding line_ending is_at
      cr-alone g e =
          rw (drop-cons s i 0 h, ne_eqb (get_or s i 0) lf n, drop-cons s (suc i) 0 g, ne_eqb (get_or s (suc i) 0) lf e) (simp and-false)

-- ---- the line ending at the front, by the bytes there
module _ (s : List ℕ) where
  pub line_ending-empty : length s < 1 → line_ending s ≡ 0
  line_ending-empty h = nothing_left s 0 (omega arith)

  pub line_ending-lf : 1 ≤ length s → get_or s 0 0 ≡ lf → line_ending s ≡ 1
  line_ending-lf h e = ends-lf s 0 (omega arith) e

  pub line_ending-cr-lf : 2 ≤ length s → get_or s 0 0 ≡ cr → get_or s 1 0 ≡ lf → line_ending s ≡ 2
  line_ending-cr-lf h e f = ends-cr-lf s 0 (omega arith) e (omega arith) f

  pub line_ending-other : 1 ≤ length s → (get_or s 0 0 ≡ lf → ⊥) → (get_or s 0 0 ≡ cr → ⊥) → line_ending s ≡ 0
  line_ending-other h n e = no-cr s 0 (omega arith) n e

  pub line_ending-short : 1 ≤ length s → length s < 2 → (get_or s 0 0 ≡ lf → ⊥) → line_ending s ≡ 0
  line_ending-short h l n = cr-at-end s 0 (omega arith) n (omega arith)

  pub line_ending-alone : 2 ≤ length s → (get_or s 0 0 ≡ lf → ⊥) → (get_or s 1 0 ≡ lf → ⊥) → line_ending s ≡ 0
  line_ending-alone h n e = cr-alone s 0 (omega arith) n (omega arith) e

-- what `line_ending_of` comes to in each of its cases
pub ruleset by_bytes = (line_ending-empty, line_ending-lf, line_ending-cr-lf, line_ending-other, line_ending-short, line_ending-alone)

-- ---- the walk
module _ (s : List ℕ) (i : ℕ) (h : i < length s) where
  stops : (n : ℕ) → line_ending (drop i s) ≡ suc n → until_ending (drop i s) ≡ 0
  unfolding until_ending
  stops n e =
      let f : line_ending (get_or s i 0 ∷ drop (suc i) s) ≡ suc n = rw (drop-cons s i 0 h) at e in
      rw (drop-cons s i 0 h, f, until_ending)

  goes_on : line_ending (drop i s) ≡ 0 → until_ending (drop i s) ≡ suc (until_ending (drop (suc i) s))
  unfolding until_ending
  goes_on e =
      let f : line_ending (get_or s i 0 ∷ drop (suc i) s) ≡ 0 = rw (drop-cons s i 0 h) at e in
      rw (drop-cons s i 0 h, f, until_ending)

pred-suc : (k : ℕ) → suc k - 1 ≡ k
pred-suc k = omega arith

-- of i bytes passed none is an LF; the last may be a CR that belongs to an ending
abbrev pub Sought : List ℕ → ℕ → Type 0
Sought s zero = Unit
Sought s (suc k) = (until_ending s ≡ k + until_ending (drop k s)) × (get_or s k 0 ≡ lf → ⊥)

module _ (s : List ℕ) where
  pub sought-more : (i : ℕ) → Sought s i → i < length s → (get_or s i 0 ≡ lf → ⊥) → Sought s (i + 1)
  sought-more zero p h n = (omega arith, n)
  sought-more (suc k) p h n =
      let e : line_ending (drop k s) ≡ 0 = cr-alone s k (omega arith) p.1 h n in
      rw (add-one (suc k)) (omega (arith, p.0, goes_on s k (omega arith) e), n)

  pub sought-all : (i : ℕ) → Sought s i → i ≡ length s → length s ≡ until_ending s
  unfolding until_ending
  sought-all zero p h =
      let g : length s ≤ 0 = omega arith in
      let z : until_ending (drop 0 s) ≡ 0 = rw (drop_of_length-le s g) in
      omega arith
  sought-all (suc k) p h =
      let g : length s ≤ suc k = omega arith in
      let e : line_ending (drop k s) ≡ 0 = cr-at-end s k (omega arith) p.1 g in
      let z : until_ending (drop (suc k) s) ≡ 0 = rw (drop_of_length-le s g) in
      omega (arith, p.0, goes_on s k (omega arith) e)

  -- an LF is found: at the front, behind a CR, behind another byte
  pub sought-front : (i : ℕ) → i < length s → get_or s i 0 ≡ lf → i ≤ 0 → i ≡ until_ending s
  sought-front zero h f z = sym (stops s 0 h 0 (ends-lf s 0 h f))
  sought-front (suc k) h f z = absurd (omega arith)

  pub sought-cr : (i : ℕ) → Sought s i → i < length s → get_or s i 0 ≡ lf → 0 < i → get_or s (i - 1) 0 ≡ cr → i - 1 ≡ until_ending s
  sought-cr zero p h f z e = absurd (omega arith)
  sought-cr (suc k) p h f z e =
      let b : k < length s = omega arith in
      omega (arith, p.0, stops s k b 1 (ends-cr-lf s k b (rw (pred-suc k) at e) h f))

  pub sought-lf : (i : ℕ) → Sought s i → i < length s → get_or s i 0 ≡ lf → 0 < i → (get_or s (i - 1) 0 ≡ cr → ⊥) → i ≡ until_ending s
  sought-lf zero p h f z e = absurd (omega arith)
  sought-lf (suc k) p h f z e =
      let b : k < length s = omega arith in
      omega (arith, p.0, goes_on s k b (no-cr s k b p.1 (rw (pred-suc k) at e)), stops s (suc k) h 0 (ends-lf s (suc k) h f))
