-- A plain term is a term: `term_step` reads its weight and its literal's code, with the same bytes.
use Prim.Native.Nat.{ℕ, suc, ◌+◌, ◌-◌, ◌^◌, ◌≤◌, ◌<◌}
use mathlib.Core.Path.{◌≡◌, refl, sym, ap, ◌∙◌}
use mathlib.Core.Bool.{Bool, true, false}
use mathlib.Core.List.{List, [], ◌∷◌}
use native.Mathlib.Nat.{add-zero, pow-le-pow_right}
use native.Mathlib.Omega.{arith}
use native.Mathlib.Numerals.{add-one}
use borrow.Author.Tests.{eqb-true, eqb-false, ne_eqb, le-leb}
use lib.Dec.{eqb, lit<}
use lib.ListN.{length, drop}
use lib.Seq.{drop-cons, drop-drop, get_or-drop}
use lib.IntN.{ℤ}
use Rattle.definitions.specs.Bytes.{blanks, space, tab, minus, letter_x, tilde}
use Rattle.definitions.specs.Reader.{Got, got, more, chain, done}
use Rattle.definitions.specs.Limits.{index_limit, file_number_limit}
use Rattle.definitions.specs.Refusal.{accept}
use Rattle.definitions.specs.Number.{leading, value, signed, ended, number}
use Rattle.definitions.specs.Literal.{code_of, index}
use Rattle.definitions.specs.Walk.{item}
use Rattle.definitions.specs.Row.{term}
use Rattle.definitions.specs.Text.{gap, gap1, digits, variable, literal, after_weight, weighted, begins_term, as_step, term_step}
use Rattle.definitions.specs.declared.Options.{Options}
use Rattle.definitions.proofs.Chains.{chain-got}
use Rattle.definitions.proofs.Numbers.{leading-head, most, signed-within, number-minus, number-unsigned, ended-got}
use Rattle.definitions.proofs.Readback.{digit-begins, one-space}
use Rattle.plain_parts.specs.PartForms.{byte_at, digits_of, bytes_of, sign, letters}
use Rattle.plain_parts.proofs.Leading.{leading-small}
use Rattle.plain_parts.proofs.PartTests.{sign-minus, sign-none, letters-tilde, letters-none, Part, Literal}
use Rattle.plain.specs.Plain.{plain, behind, term_bytes, term_of, plain_at, plain_term, PlainFits, PlainIs}
use Rattle.plain.specs.declared.PlainTerm.{PlainTerm}
use Rattle.plain.proofs.PlainTests.{PlainText, plain_here}

-- ---- from one to seven digits at the front
module _ (s : List ℕ) (some : 0 < length (leading s)) (short : length (leading s) ≤ 7) where
  led : length (leading s) ≡ 0 → ⊥
  led e = omega arith

  value-small : value (leading s) < 100_000_000
  value-small = let p : 10 ^ length (leading s) ≤ 10 ^ 7 = pow-le-pow_right (lit< tt) short in omega (arith, leading-small 0 s)

  ended-there : (negative : Bool) (k : ℕ)
      → ended negative k (leading s) ≡ got (signed negative (value (leading s))) (k + length (leading s))
  ended-there negative k = ended-got negative k (leading s) led (signed-within negative (value (leading s)) (fits negative))
    where
      fits : (b : Bool) → value (leading s) ≤ most b
      fits true = omega (arith, value-small)
      fits false = omega (arith, value-small)

  module _ (o : Options) (negative : Bool) (low : o.first ≤ value (leading s)) where
    index-there : index o.first (value (leading s)) ≡ accept (value (leading s) - o.first)
    unfolding index
    index-there =
        let v = value (leading s) in
        let h = value-small in
        rw (le-leb v file_number_limit (omega arith), le-leb o.first v low, le-leb (v - o.first) index_limit (omega arith))

    digits-there : digits o negative s ≡ got (code_of negative (value (leading s) - o.first)) (length (leading s))
    unfolding digits
    digits-there = rw (ne_eqb (length (leading s)) 0 led, index-there)

-- ---- a weight

minus-begins : (s : List ℕ) → byte_at s 0 ≡ minus → begins_term s ≡ true
unfolding begins_term
minus-begins [] e = absurd (omega arith)
minus-begins (b ∷ s) e = rw e

module _ (s : List ℕ) (long : 0 < length s) (part : Part (sign s) s) where
  weight-digits : (k : ℕ) → sign s ≡ k → (0 < length (digits_of k s)) × (length (digits_of k s) ≤ 7)
  weight-digits k e = let p : Part k s = rw e at part in (omega (arith, p.some), omega (arith, p.short))

  number-there : number s ≡ got (signed (eqb (byte_at s 0) minus) (value (digits_of (sign s) s))) (bytes_of (sign s) s)
  number-there = by (eqb (byte_at s 0) minus) refl
    where
      by : (t : Bool) → eqb (byte_at s 0) minus ≡ t → number s ≡ got (signed t (value (digits_of (sign s) s))) (bytes_of (sign s) s)
      by true q =
          let e = eqb-true (byte_at s 0) minus q in
          let d = weight-digits 1 (sign-minus s e) in
          rw (sign-minus s e) (number-minus s long e ∙ ended-there (drop 1 s) d.0 d.1 true 1)
      by false q =
          let n = eqb-false (byte_at s 0) minus q in
          let d = weight-digits 0 (sign-none s n) in
          let h = (leading-head s d.0).1 in
          rw (sign-none s n) (number-unsigned s long n (λ e. omega arith) ∙ ended-there s d.0 d.1 false 0)

  weight-begins : begins_term s ≡ true
  weight-begins = by (eqb (byte_at s 0) minus) refl
    where
      by : (t : Bool) → eqb (byte_at s 0) minus ≡ t → begins_term s ≡ true
      by true q = minus-begins s (eqb-true (byte_at s 0) minus q)
      by false q = digit-begins s (weight-digits 0 (sign-none s (eqb-false (byte_at s 0) minus q))).0

  size_small : value (digits_of (sign s) s) < 100_000_000
  size_small = let d = weight-digits (sign s) refl in value-small (drop (sign s) s) d.0 d.1

-- ---- a literal

variable-there : (o : Options) (negative : Bool) (s : List ℕ) → byte_at s 0 ≡ letter_x
    → variable o negative s ≡ more 1 (digits o negative (drop 1 s))
unfolding variable
variable-there o negative [] e = absurd (omega arith)
variable-there o negative (b ∷ s) e = rw e

literal-plain : (o : Options) (s : List ℕ) → byte_at s 0 ≡ letter_x → literal o s ≡ more 1 (digits o false (drop 1 s))
unfolding literal
literal-plain o [] e = absurd (omega arith)
literal-plain o (b ∷ s) e = rw e (rw e at (variable-there o false (b ∷ s) e))

literal-negated : (o : Options) (s : List ℕ) → byte_at s 0 ≡ tilde → byte_at s 1 ≡ letter_x
    → literal o s ≡ more 1 (more 1 (digits o true (drop 2 s)))
unfolding literal
literal-negated o [] e f = absurd (omega arith)
literal-negated o (b ∷ s) e f = rw (e, variable-there o true s f)

module _ (s : List ℕ) (lit : Literal s) where
  literal-digits : (k : ℕ) → letters s ≡ k → (0 < length (digits_of k s)) × (length (digits_of k s) ≤ 7)
  literal-digits k e = let p : Part k s = rw e at lit.part in (omega (arith, p.some), omega (arith, p.short))

  number_small : value (digits_of (letters s) s) < 100_000_000
  number_small = let d = literal-digits (letters s) refl in value-small (drop (letters s) s) d.0 d.1

  -- neither letter is a blank
  literal-above : space < byte_at s 0
  literal-above = by (eqb (byte_at s 0) tilde) refl
    where
      by : (t : Bool) → eqb (byte_at s 0) tilde ≡ t → space < byte_at s 0
      by true q = omega (arith, eqb-true (byte_at s 0) tilde q)
      by false q =
          let x : byte_at s 0 ≡ letter_x = rw (letters-none s (eqb-false (byte_at s 0) tilde q)) at lit.letter in
          omega arith

  literal-there : (o : Options) → o.first ≤ value (digits_of (letters s) s)
      → literal o s ≡ got (code_of (eqb (byte_at s 0) tilde) (value (digits_of (letters s) s) - o.first)) (bytes_of (letters s) s)
  literal-there o low = by (eqb (byte_at s 0) tilde) refl
    where
      by : (t : Bool) → eqb (byte_at s 0) tilde ≡ t
          → literal o s ≡ got (code_of t (value (digits_of (letters s) s) - o.first)) (bytes_of (letters s) s)
      by true q =
          let e = eqb-true (byte_at s 0) tilde q in
          let l = letters-tilde s e in
          let d = literal-digits 2 l in
          let x : byte_at s 1 ≡ letter_x = rw l at lit.letter in
          let m : o.first ≤ value (digits_of 2 s) = rw l at low in
          let n : 1 + (1 + length (digits_of 2 s)) ≡ 2 + length (digits_of 2 s) = omega arith in
          rw (l, ← n) (literal-negated o s e x ∙ ap (λ (g : Got ℕ). more 1 (more 1 g)) (digits-there (drop 2 s) d.0 d.1 o true m))
      by false q =
          let l = letters-none s (eqb-false (byte_at s 0) tilde q) in
          let d = literal-digits 1 l in
          let x : byte_at s 0 ≡ letter_x = rw l at lit.letter in
          let m : o.first ≤ value (digits_of 1 s) = rw l at low in
          rw l (literal-plain o s x ∙ ap (more 1) (digits-there (drop 1 s) d.0 d.1 o false m))

-- ---- a term

-- a byte above a space is no blank
above-no-blank : (s : List ℕ) → space < byte_at s 0 → blanks s ≡ 0
unfolding blanks
above-no-blank [] h = absurd (omega arith)
above-no-blank (b ∷ s) h = rw (ne_eqb b space (λ e. omega arith), ne_eqb b tab (λ e. omega arith), blanks)

-- a space with no blank behind it
single-blank : (s : List ℕ) (k : ℕ) → k < length s → byte_at s k ≡ space → space < byte_at s (k + 1) → blanks (drop k s) ≡ 1
single-blank s k h e f =
    let z : space < byte_at (drop (k + 1) s) 0 = rw (get_or-drop (k + 1) s 0 0, add-zero) f in
    ap blanks (drop-cons s k 0 h) ∙ rw e (one-space (drop (suc k) s) (rw (← add-one k) (above-no-blank (drop (k + 1) s) z)))

-- a weight of k bytes, a space, a literal of j bytes, a space, and a byte above a space
module _ (o : Options) (s : List ℕ) (k j : ℕ) (w : ℤ) (c : ℕ) where
  after-weight : blanks (drop k s) ≡ 1 → literal o (drop (k + 1) s) ≡ got c j → blanks (drop (k + 1 + j) s) ≡ 1
      → after_weight o w (drop k s) ≡ got (term w c) (1 + (j + (1 + 0)))
  unfolding after_weight chain gap1 gap done
  after-weight b l d = rw (b, drop-drop 1 k s, l, drop-drop j (k + 1) s, d)

  term-there : begins_term s ≡ true → number s ≡ got w k → blanks (drop k s) ≡ 1 → literal o (drop (k + 1) s) ≡ got c j
      → blanks (drop (k + 1 + j) s) ≡ 1
      → term_step o s ≡ item (term w c) (k + j + 2)
  unfolding term_step weighted
  term-there t e b l d =
      rw (t, term_step) (ap as_step (chain-got number _ s w k e ∙ ap (more k) (after-weight b l d)) ∙ ap (item (term w c)) (omega arith))

module _ (o : Options) (s : List ℕ) (p : PlainText o s) where
  abbrev gap_at : ℕ
  gap_at = bytes_of (sign s) s

  abbrev long : ℕ
  long = bytes_of (letters (behind s)) (behind s)

  fits : PlainFits o.first (term_of s)
  fits = record {
    size = size_small s (omega (arith, p.long)) p.weight;
    least = omega (arith, p.first, p.number);
    most = number_small (behind s) p.literal;
  }

  -- the bytes behind the weight, and behind the literal
  behind-byte : (i : ℕ) → byte_at (behind s) i ≡ byte_at s (gap_at + 1 + i)
  unfolding behind
  behind-byte i = get_or-drop (gap_at + 1) s i 0

  end_is : term_bytes s ≡ gap_at + 1 + long + 1
  unfolding term_bytes
  end_is = omega arith

  step : term_step o s ≡ item (plain_term o.first (term_of s)) (term_bytes s)
  unfolding behind term_bytes
  step =
      let l = p.literal.part in
      let a : space < byte_at s (gap_at + 1) = rw (behind-byte 0, add-zero) at (literal-above (behind s) p.literal) in
      let b : byte_at s (gap_at + 1 + long) ≡ space = sym (behind-byte long) ∙ l.space in
      let c : space < byte_at s (gap_at + 1 + long + 1) = rw end_is at p.end in
      term-there o s gap_at long _ _ (weight-begins s (omega (arith, p.long)) p.weight)
      (number-there s (omega (arith, p.long)) p.weight)
      (single-blank s gap_at (omega (arith, p.long, p.weight.short)) p.weight.space a)
      (literal-there (behind s) p.literal o fits.least)
      (single-blank s (gap_at + 1 + long) (omega (arith, p.long, p.weight.short, l.short)) b c)

pub plain-is-term : (o : Options) (s : List ℕ) (p : PlainTerm) (n : ℕ) → plain_at o s ≡ plain p n → PlainIs o s p n
plain-is-term o s p n e =
    let h = plain_here o s p n e in
    rw (← h.term, ← h.bytes) record { step = step o s h.text; fits = fits o s h.text }
