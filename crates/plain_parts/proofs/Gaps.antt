-- The first marked bit that a word has not (`FirstGap`), and where the marks stand in the lanes of a word.
use mathlib.Core.Path.{◌≡◌, refl, sym, ap, subst, ◌∙◌}
use mathlib.Core.Bool.{Bool, true, false, not, cond, ◌&&◌}
use Prim.Native.Nat.{ℕ, zero, suc, ◌+◌, ◌-◌, ◌*◌, ◌/◌, ◌%◌, ◌^◌, ◌≤◌, ◌<◌}
use native.Mathlib.Nat.{pow-suc}
use native.Mathlib.Numerals.{one-add}
use native.Mathlib.Decide.{dec_lt}
use native.Mathlib.Omega.{arith}
use borrow.Author.Tests.{leb-true, le-leb, eqb-true, eq-eqb, not-true}
use lib.Bits.{bit_and, and_shr, and_mod, and_mask, and_le_l, and_le_r}
use lib.Count.{under, count_trailing_zeros, trailing_le}
use lib.Dec.{leb, eqb}
use lib.Pow.{shr-shr}
use Rattle.definitions.proofs.Truths.{both}
use Rattle.plain_parts.specs.Lanes.{FirstGap}

-- ---- the lowest bit that is set

next_bit : (n t : ℕ) → n / 2 ^ suc t % 2 ≡ n / 2 / 2 ^ t % 2
next_bit n t = ap (λ (x : ℕ). n / 2 ^ x % 2) (sym (one-add t)) ∙ ap (λ (x : ℕ). x % 2) (sym (shr-shr n 1 t))

under-set : (d n t k : ℕ) → n % 2 ≡ d → (t < k → n / 2 / 2 ^ t % 2 ≡ 1) → under d t < suc k → n / 2 ^ under d t % 2 ≡ 1
under-set zero n t k e rest h = next_bit n t ∙ rest (omega arith)
under-set (suc d) n t k e rest h = omega arith

trailing-set : (k n : ℕ) → count_trailing_zeros k n < k → n / 2 ^ count_trailing_zeros k n % 2 ≡ 1
unfolding count_trailing_zeros
trailing-set zero n h = absurd (omega arith)
trailing-set (suc k) n h = under-set (n % 2) n (count_trailing_zeros k (n / 2)) k refl (trailing-set k (n / 2)) h

-- none below it is set
under-clear : (d n z t : ℕ) → n % 2 ≡ d → ((u : ℕ) → u < z → n / 2 / 2 ^ u % 2 ≡ 0) → t < under d z → n / 2 ^ t % 2 ≡ 0
under-clear zero n z zero e rest h = omega arith
under-clear zero n z (suc t) e rest h = next_bit n t ∙ rest t (omega arith)
under-clear (suc d) n z t e rest h = absurd (omega arith)

trailing-clear : (k n t : ℕ) → t < count_trailing_zeros k n → n / 2 ^ t % 2 ≡ 0
unfolding count_trailing_zeros
trailing-clear zero n t h = absurd (omega arith)
trailing-clear (suc k) n t h = under-clear (n % 2) n (count_trailing_zeros k (n / 2)) t refl (trailing-clear k (n / 2)) h

-- ---- one bit of a number: of both of two, and of what a number lacks of all bits

and-bit : (a b t : ℕ) → bit_and a b / 2 ^ t % 2 ≡ bit_and (a / 2 ^ t % 2) (b / 2 ^ t % 2)
and-bit a b t = ap (λ (x : ℕ). x % 2) (and_shr a b t) ∙ and_mod (a / 2 ^ t) (b / 2 ^ t) 1

and_set : (a b t : ℕ) → bit_and a b / 2 ^ t % 2 ≡ 1 → (a / 2 ^ t % 2 ≡ 1) × (b / 2 ^ t % 2 ≡ 1)
and_set a b t e =
    let p = and-bit a b t in
    let l = and_le_l (a / 2 ^ t % 2) (b / 2 ^ t % 2) in
    let r = and_le_r (a / 2 ^ t % 2) (b / 2 ^ t % 2) in
    (omega arith, omega arith)

and-clear : (a b t : ℕ) → bit_and a b / 2 ^ t % 2 ≡ 0 → b / 2 ^ t % 2 ≡ 1 → a / 2 ^ t % 2 ≡ 0
and-clear a b t e f =
    let x = a / 2 ^ t % 2 in
    let p : bit_and x 1 ≡ 0 = ap (bit_and x) (sym f) ∙ sym (and-bit a b t) ∙ e in
    let q : bit_and x 1 ≡ x % 2 = and_mask x 1 in
    omega arith

not-bit : (t k w : ℕ) → w < 2 ^ k → t < k → (2 ^ k - 1 - w) / 2 ^ t % 2 + w / 2 ^ t % 2 ≡ 1
not-bit t zero w h l = absurd (omega arith)
not-bit zero (suc k) w h l = let q = pow-suc 2 k in omega arith
not-bit (suc t) (suc k) w h l =
    let q = pow-suc 2 k in
    let half : (2 ^ suc k - 1 - w) / 2 ≡ 2 ^ k - 1 - w / 2 = omega arith in
    rw (next_bit (2 ^ suc k - 1 - w) t, next_bit w t, half) (not-bit t k (w / 2) (omega arith) (omega arith))

-- what the code computes
pub gap-first : (word marks : ℕ) → word < 2 ^ 64 → FirstGap word marks (count_trailing_zeros 64 (bit_and (0xffff_ffff_ffff_ffff - word) marks))
gap-first word marks l =
    let n = bit_and (0xffff_ffff_ffff_ffff - word) marks in
    record {
      there = λ h.
          let p = and_set (0xffff_ffff_ffff_ffff - word) marks _ (trailing-set 64 n h) in
          (p.1, omega (arith, p.0, not-bit (count_trailing_zeros 64 n) 64 word l h));
      below = λ t h m.
          let z = trailing_le 64 n in
          omega (arith, and-clear (0xffff_ffff_ffff_ffff - word) marks t (trailing-clear 64 n t h) m, not-bit t 64 word l (omega arith));
    }

-- ---- marks at the bit 4 of lanes, by a test of each bit

-- the bit 4 of a lane, the first or one behind it
pub record AtLane (first gap : ℕ) : Type 0 where
  pub place : ℕ
  pub is : gap ≡ 8 * place + 4
  pub least : first ≤ place
  pub most : place ≤ 7

lane_bit : ℕ → ℕ → Bool
lane_bit first g = eqb (g % 8) 4 && leb first (g / 8)

same : Bool → Bool → Bool
same a b = cond a b (not b)

-- of the bits below n those are set that are the bit 4 of one of these lanes
marks_are : ℕ → ℕ → ℕ → Bool
marks_are marks first zero = true
marks_are marks first (suc n) = same (eqb (marks / 2 ^ n % 2) 1) (lane_bit first n) && marks_are marks first n

same-is : (a b : Bool) → same a b ≡ true → a ≡ b
unfolding same
same-is true b e = sym e
same-is false b e = sym (not-true b e)

mark-is : (marks first n : ℕ) → marks_are marks first n ≡ true → (g : ℕ) → g < n → eqb (marks / 2 ^ g % 2) 1 ≡ lane_bit first g
unfolding marks_are
mark-is marks first zero e g h = absurd (omega arith)
mark-is marks first (suc n) e g h = by (mark-is marks first n parts.1) (dec_lt g n)
  where
    parts : (same (eqb (marks / 2 ^ n % 2) 1) (lane_bit first n) ≡ true) × (marks_are marks first n ≡ true)
    parts = both (same (eqb (marks / 2 ^ n % 2) 1) (lane_bit first n)) (marks_are marks first n) e

    by : ((g : ℕ) → g < n → eqb (marks / 2 ^ g % 2) 1 ≡ lane_bit first g) → Dec (g < n) → eqb (marks / 2 ^ g % 2) 1 ≡ lane_bit first g
    by rest (yes k) = rest g k
    by rest (no k) =
        let q : n ≡ g = omega arith in
        subst (λ (x : ℕ). eqb (marks / 2 ^ x % 2) 1 ≡ lane_bit first x) q (same-is (eqb (marks / 2 ^ n % 2) 1) (lane_bit first n) parts.0)

-- the marks stand in these lanes, and in all of them
pub record Marks (marks first : ℕ) : Type 0 where
  pub inside : (g : ℕ) → g < 64 → marks / 2 ^ g % 2 ≡ 1 → AtLane first g
  pub each : (p : ℕ) → first ≤ p → p ≤ 7 → marks / 2 ^ (8 * p + 4) % 2 ≡ 1

-- a gap is in one of them
pub gap_at_lem : {word marks first gap : ℕ} → Marks marks first → FirstGap word marks gap → gap < 64 → AtLane first gap
gap_at_lem m g h = m.inside _ h (g.there h).0

lane-bit : (first g : ℕ) → g < 64 → lane_bit first g ≡ true → AtLane first g
unfolding lane_bit
lane-bit first g h e =
    let p = both (eqb (g % 8) 4) (leb first (g / 8)) e in
    let f : g % 8 ≡ 4 = eqb-true (g % 8) 4 p.0 in
    record { place = g / 8; is = omega arith; least = leb-true first (g / 8) p.1; most = omega arith }

bit-lane : (first p : ℕ) → first ≤ p → lane_bit first (8 * p + 4) ≡ true
unfolding lane_bit
bit-lane first p h = rw (eq-eqb ((8 * p + 4) % 8) 4 (omega arith)) (le-leb first ((8 * p + 4) / 8) (omega arith))

marks-are : (marks first : ℕ) → marks_are marks first 64 ≡ true → Marks marks first
marks-are marks first e = record {
  inside = λ g h m. lane-bit first g h (sym (mark-is marks first 64 e g h) ∙ eq-eqb (marks / 2 ^ g % 2) 1 m);
  each = λ p l h. eqb-true (marks / 2 ^ (8 * p + 4) % 2) 1 (mark-is marks first 64 e (8 * p + 4) (omega arith) ∙ bit-lane first p l);
}

-- behind a weight, and behind a literal
pub weight-marks : Marks 0x1010_1010_1010_1000 1
unfolding marks_are lane_bit same
weight-marks = marks-are 0x1010_1010_1010_1000 1 refl

pub literal-marks : Marks 0x1010_1010_1010_0000 2
unfolding marks_are lane_bit same
literal-marks = marks-are 0x1010_1010_1010_0000 2 refl
