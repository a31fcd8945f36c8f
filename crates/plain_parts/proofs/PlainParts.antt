-- Weight and literal of a plain term, as the code finds them in a word: a part ends at the gap, the first lane whose
-- byte lacks the bit 4, and the bytes before it are digits; where there is no such gap, or not all are digits, there is
-- no such part.
use mathlib.Core.Path.{◌≡◌, refl, sym, ap, ◌∙◌}
use mathlib.Core.Bool.{Bool, true, false, ◌&&◌}
use mathlib.Core.List.{List}
use Prim.Native.Nat.{ℕ, ◌+◌, ◌-◌, ◌*◌, ◌/◌, ◌%◌, ◌^◌, ◌≤◌, ◌<◌}
use native.Mathlib.Decide.{dec_lt}
use native.Mathlib.Omega.{arith}
use borrow.Author.Tests.{eqb-true, eqb-false, eq-eqb, ne_eqb}
use lib.Bits.{bit_and, and_mask}
use lib.Dec.{eqb}
use lib.ListN.{length, take, drop, length-drop}
use lib.Pow.{shr-shr}
use lib.Seq.{length-take-le, get_or-drop, drop-drop}
use Rattle.definitions.specs.Bytes.{is_digit, minus, letter_x, tilde}
use Rattle.definitions.specs.Number.{leading, value}
use Rattle.definitions.proofs.Truths.{one_truth}
use Rattle.plain_parts.specs.Lanes.{lanes, all_bytes, FirstGap, DigitsAre, DigitsSay}
use Rattle.plain_parts.specs.PartForms.{byte_at, digits_of, bytes_of, is_part, sign, is_weight, letters, is_literal}
use Rattle.plain_parts.specs.InWord.{Begins, PartIs, WeightSays, LiteralSays}
use Rattle.std.specs.Prelude.{Option, Some, None}
use Rattle.plain_parts.specs.declared.word.Lanes.{Lanes}
use Rattle.plain_parts.proofs.Gaps.{AtLane, Marks, gap_at_lem, weight-marks, literal-marks}
use Rattle.plain_parts.proofs.Leading.{leading_at, leading-taken, leading-digits, leading-ended}
use Rattle.plain_parts.proofs.PartTests.{sign-minus, sign-none, sign-within, letters-tilde, letters-none, letters-within}
use Rattle.plain_parts.proofs.PartTests.{Part, part_says}
use Rattle.plain_parts.proofs.PlainLanes.{head-lane, tail-lanes, lane-at, take-lanes}

-- what is never true
refuted : (b : Bool) → (b ≡ true → ⊥) → b ≡ false
refuted true h = absurd (h refl)
refuted false h = refl

-- ---- a text that begins with the bytes of a word, and the gap in the word

pub record Fronted (s : List ℕ) (first word gap : ℕ) : Type 0 where
  pub long : 8 ≤ length s
  pub bytes : lanes 8 word ≡ take 8 s
  pub at : gap < 64 → AtLane first gap
  pub lacks : (p : ℕ) → p ≤ 7 → gap ≡ 8 * p + 4 → byte_at s p / 16 % 2 ≡ 0
  pub has : (p : ℕ) → first ≤ p → p ≤ 7 → 8 * p + 4 < gap → byte_at s p / 16 % 2 ≡ 1

module _ (s : List ℕ) (word gap : ℕ) (b : Begins s word) where
  lane-bit : (p : ℕ) → p ≤ 7 → byte_at s p / 16 % 2 ≡ word / 2 ^ (8 * p + 4) % 2
  lane-bit p h =
      let w = word / 2 ^ (8 * p) in
      let bit : w / 16 % 2 ≡ word / 2 ^ (8 * p + 4) % 2 = ap (λ (x : ℕ). x % 2) (shr-shr word (8 * p) 4) in
      rw (lane-at p 8 word s (omega arith) b.bytes) (omega arith)

  fronted : {marks first : ℕ} → Marks marks first → FirstGap word marks gap → Fronted s first word gap
  fronted m g = record {
    long = b.long;
    bytes = b.bytes;
    at = gap_at_lem m g;
    lacks = λ p h e. lane-bit p h ∙ ap (λ (x : ℕ). word / 2 ^ x % 2) (sym e) ∙ (g.there (omega arith)).1;
    has = λ p f h e. lane-bit p h ∙ g.below (8 * p + 4) e (m.each p f h);
  }

  pub weight-front : FirstGap word 0x1010_1010_1010_1000 gap → Fronted s 1 word gap
  weight-front = fronted weight-marks

  pub literal-front : FirstGap word 0x1010_1010_1010_0000 gap → Fronted s 2 word gap
  literal-front = fronted literal-marks

-- ---- a part of k bytes and digits
module _ {s : List ℕ} {first word gap : ℕ} (f : Fronted s first word gap) (k : ℕ) (low : k ≤ first) (high : first ≤ k + 1) where
  -- the gap is where a part ends
  gap_is : Part k s → gap ≡ 8 * bytes_of k s + 4
  gap_is part = by (dec_lt (8 * n + 4) gap)
    where
      n : ℕ
      n = bytes_of k s

      there : (a : AtLane first gap) → gap ≤ 8 * n + 4 → Dec (a.place < n) → gap ≡ 8 * n + 4
      there a h (yes l) =
          let p = a.place in
          let q : k + (p - k) ≡ p = omega (arith, a.least) in
          let d = leading_at (drop k s) (p - k) (omega (arith, a.least)) in
          let b : byte_at (drop k s) (p - k) ≡ byte_at s p = get_or-drop k s (p - k) 0 ∙ ap (byte_at s) q in
          absurd (omega (arith, d, b, f.lacks p a.most a.is))
      there a h (no l) = omega (arith, a.is)

      by : Dec (8 * n + 4 < gap) → gap ≡ 8 * n + 4
      by (yes h) = absurd (omega (arith, part.space, f.has n (omega (arith, part.some)) part.short h))
      by (no h) = let a = f.at (omega (arith, part.short)) in there a (omega arith) (dec_lt a.place n)

  pub gap-far : 60 < gap → is_part k s ≡ false
  gap-far h = refuted (is_part k s) (λ e. let p = part_says k s e in omega (arith, gap_is p))

  pub gap-near : gap < 8 * k + 8 → is_part k s ≡ false
  gap-near h = refuted (is_part k s) (λ e. let p = part_says k s e in omega (arith, gap_is p))

  -- the bytes before the gap, in the lanes of the word w
  module _ (w : ℕ) (behind : lanes (8 - k) w ≡ take (8 - k) (drop k s)) where
    pub no_part : all_bytes is_digit (take ((gap - (8 * k + 4)) / 8) (lanes 8 w)) ≡ false → is_part k s ≡ false
    no_part d = refuted (is_part k s) (λ e.
        let p = part_says k s e in
        let g = gap_is p in
        let m = length (digits_of k s) in
        let q : (gap - (8 * k + 4)) / 8 ≡ m = omega arith in
        let t : take m (lanes 8 w) ≡ digits_of k s =
        take-lanes m (8 - k) 8 w (drop k s) (omega arith) (omega arith) behind ∙ leading-taken (drop k s) in
        one_truth (all_bytes is_digit (digits_of k s)) (leading-digits (drop k s)) (rw (q, t) at d))

    pub part-is : (y : ℕ) → gap < 64 → 8 * k + 8 ≤ gap → DigitsAre (take ((gap - (8 * k + 4)) / 8) (lanes 8 w)) y → PartIs k s y (gap / 8)
    part-is y h g d =
        let a = f.at h in
        let p = a.place in
        let m = p - k in
        let v : gap ≡ 8 * p + 4 = a.is in
        let u : p ≤ 7 = a.most in
        let q : (gap - (8 * k + 4)) / 8 ≡ m = omega arith in
        let c : k + m ≡ p = omega arith in
        let t : take m (lanes 8 w) ≡ take m (drop k s) = take-lanes m (8 - k) 8 w (drop k s) (omega arith) (omega arith) behind in
        let i : m < length (drop k s) = rw (length-drop k s) (omega (arith, f.long)) in
        let b : byte_at (drop k s) m ≡ byte_at s p = get_or-drop k s m 0 ∙ ap (byte_at s) c in
        let l : leading (drop k s) ≡ take m (drop k s) =
        leading-ended m (drop k s) i (rw (q, t) at d.digits) (rw b (f.lacks p u v)) in
        let n : length (digits_of k s) ≡ m = ap length l ∙ length-take-le m (drop k s) (omega arith) in
        record {
          number = d.number ∙ ap value (ap (λ (x : ℕ). take x (lanes 8 w)) q ∙ t ∙ sym l);
          bytes = omega arith;
          some = omega arith;
          short = omega arith;
        }

-- ---- the first bytes of the word
module _ (s : List ℕ) (word : ℕ) (b : lanes 8 word ≡ take 8 s) where
  first_byte : byte_at s 0 ≡ bit_and word 255
  first_byte = head-lane 7 word s b ∙ sym (and_mask word 8)

  behind-one : lanes 7 (word / 256) ≡ take 7 (drop 1 s)
  behind-one = tail-lanes 7 word s b

  behind-two : lanes 6 (word / 65536) ≡ take 6 (drop 2 s)
  behind-two =
      let q : word / 65536 ≡ word / 256 / 256 = omega arith in
      rw q (tail-lanes 6 (word / 256) (drop 1 s) behind-one ∙ rw (drop-drop 1 1 s))

  first-bytes : byte_at s 0 + 256 * byte_at s 1 ≡ bit_and word 65535
  first-bytes =
      let p = head-lane 7 word s b in
      let q = sym (get_or-drop 1 s 0 0) ∙ head-lane 6 (word / 256) (drop 1 s) behind-one in
      omega (arith, and_mask word 16)

-- ---- weights

-- no digit and no sign
pub weight-above : (s : List ℕ) (word : ℕ) → lanes 8 word ≡ take 8 s → 57 < bit_and word 255 → is_weight s ≡ false
weight-above s word b h =
    let c = first_byte s word b in
    rw (sign-none s (λ e. omega arith)) (refuted (is_part 0 s) (λ e. omega (arith, leading_at s 0 (omega (arith, part_says 0 s e)))))

module _ {s : List ℕ} {word gap : ℕ} (f : Fronted s 1 word gap) where
  pub weight-far : 60 < gap → is_weight s ≡ false
  weight-far h = gap-far f (sign s) (sign-within s) (omega arith) h

  module _ (b : bit_and word 255 ≡ minus) where
    minus-sign : sign s ≡ 1
    minus-sign = sign-minus s (first_byte s word f.bytes ∙ b)

    pub minus-near : gap < 16 → is_weight s ≡ false
    minus-near h = rw minus-sign (gap-near f 1 (omega arith) (omega arith) h)

    pub minus-says : gap < 64 → 16 ≤ gap → (r : Option Lanes) → DigitsSay (word / 256) (gap - 12) true (gap / 8) r → WeightSays s r
    minus-says h g None d =
        rw minus-sign (no_part f 1 (omega arith) (omega arith) (word / 256) (behind-one s word f.bytes) d)
    minus-says h g (Some r) d = record {
      front = d.mark ∙ sym (eq-eqb (byte_at s 0) minus (first_byte s word f.bytes ∙ b));
      part = rw (minus-sign, d.long)
          (part-is f 1 (omega arith) (omega arith) (word / 256) (behind-one s word f.bytes) r.digits h g d.are);
    }

  module _ (b : bit_and word 255 ≡ minus → ⊥) where
    no_minus : byte_at s 0 ≡ minus → ⊥
    no_minus e = b (sym (first_byte s word f.bytes) ∙ e)

    pub unsigned-says : gap < 64 → (r : Option Lanes) → DigitsSay word (gap - 4) false (gap / 8) r → WeightSays s r
    unsigned-says h None d = rw (sign-none s no_minus) (no_part f 0 (omega arith) (omega arith) word f.bytes d)
    unsigned-says h (Some r) d = record {
      front = d.mark ∙ sym (ne_eqb (byte_at s 0) minus no_minus);
      part =
          let a = f.at h in
          rw (sign-none s no_minus, d.long)
          (part-is f 0 (omega arith) (omega arith) word f.bytes r.digits h (omega (arith, a.is, a.least)) d.are);
    }

-- ---- literals

no-digits : (s : List ℕ) → is_part (letters s) s ≡ false → is_literal s ≡ false
unfolding is_literal
no-digits s e = rw e (by (eqb (byte_at s (letters s - 1)) letter_x))
  where
    by : (t : Bool) → t && false ≡ false
    by true = refl
    by false = refl

no-letter : (s : List ℕ) → (byte_at s (letters s - 1) ≡ letter_x → ⊥) → is_literal s ≡ false
unfolding is_literal
no-letter s e = rw (ne_eqb (byte_at s (letters s - 1)) letter_x e)

-- neither `x` nor `~x`
pub literal-other : (s : List ℕ) (word : ℕ) → lanes 8 word ≡ take 8 s → (bit_and word 255 ≡ letter_x → ⊥) → (bit_and word 65535 ≡ 30846 → ⊥)
    → is_literal s ≡ false
literal-other s word b x t = by (eqb (byte_at s 0) tilde) refl
  where
    by : (c : Bool) → eqb (byte_at s 0) tilde ≡ c → is_literal s ≡ false
    by true q =
        let e : byte_at s 0 ≡ tilde = eqb-true (byte_at s 0) tilde q in
        no-letter s (λ l. t (let k : byte_at s 1 ≡ letter_x = rw (letters-tilde s e) at l in omega (arith, first-bytes s word b)))
    by false q =
        no-letter s (λ l. x (sym (first_byte s word b) ∙ rw (letters-none s (eqb-false (byte_at s 0) tilde q)) at l))

module _ {s : List ℕ} {word gap : ℕ} (f : Fronted s 2 word gap) where
  pub literal-far : 60 < gap → is_literal s ≡ false
  literal-far h = let l = letters-within s in no-digits s (gap-far f (letters s) l.1 (omega arith) h)

  module _ (b : bit_and word 255 ≡ letter_x) where
    starts-x : byte_at s 0 ≡ letter_x
    starts-x = first_byte s word f.bytes ∙ b

    no-tilde : byte_at s 0 ≡ tilde → ⊥
    no-tilde e = omega (arith, starts-x)

    pub letter-says : gap < 64 → (r : Option Lanes) → DigitsSay (word / 256) (gap - 12) false (gap / 8) r → LiteralSays s r
    letter-says h None d =
        no-digits s (rw (letters-none s no-tilde)
        (no_part f 1 (omega arith) (omega arith) (word / 256) (behind-one s word f.bytes) d))
    letter-says h (Some r) d = record {
      front = d.mark ∙ sym (ne_eqb (byte_at s 0) tilde no-tilde);
      letter = rw (letters-none s no-tilde) starts-x;
      part =
          let a = f.at h in
          rw (letters-none s no-tilde, d.long)
          (part-is f 1 (omega arith) (omega arith) (word / 256) (behind-one s word f.bytes) r.digits h (omega (arith, a.is, a.least))
          d.are);
    }

  module _ (b : bit_and word 65535 ≡ 30846) where
    starts-tilde : (byte_at s 0 ≡ tilde) × (byte_at s 1 ≡ letter_x)
    starts-tilde =
        let p = head-lane 7 word s f.bytes in
        let q = first-bytes s word f.bytes in
        (omega arith, omega arith)

    tilde-letters : letters s ≡ 2
    tilde-letters = letters-tilde s starts-tilde.0

    pub tilde-near : gap < 24 → is_literal s ≡ false
    tilde-near h = no-digits s (rw tilde-letters (gap-near f 2 (omega arith) (omega arith) h))

    pub tilde-says : gap < 64 → 24 ≤ gap → (r : Option Lanes) → DigitsSay (word / 65536) (gap - 20) true (gap / 8) r → LiteralSays s r
    tilde-says h g None d =
        no-digits s (rw tilde-letters (no_part f 2 (omega arith) (omega arith) (word / 65536) (behind-two s word f.bytes) d))
    tilde-says h g (Some r) d = record {
      front = d.mark ∙ sym (eq-eqb (byte_at s 0) tilde starts-tilde.0);
      letter = rw tilde-letters starts-tilde.1;
      part = rw (tilde-letters, d.long)
          (part-is f 2 (omega arith) (omega arith) (word / 65536) (behind-two s word f.bytes) r.digits h g d.are);
    }
