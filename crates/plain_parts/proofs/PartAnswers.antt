-- What `plain_weight` and `plain_literal` answer is what `weight_at` and `literal_at` say, at each of their tests; and
-- what such an answer says of a text.
use Prim.Native.Nat.{ℕ, ◌-◌, ◌≤◌, ◌<◌, ◌^◌}
use mathlib.Core.Path.{◌≡◌, refl, sym, ap, ◌∙◌}
use mathlib.Core.Bool.{Bool, true, false, cond, ◌&&◌}
use mathlib.Core.List.{List}
use borrow.Author.Tests.{le-leb, lt-leb, lt-ltb, eq-eqb, ne_eqb}
use lib.Dec.{eqb, leb}
use lib.ListN.{length}
use Rattle.definitions.specs.Bytes.{space, minus, letter_x, tilde}
use Rattle.definitions.specs.Number.{value}
use Rattle.definitions.proofs.Truths.{both, never}
use Rattle.plain_parts.specs.Lanes.{lane_value}
use Rattle.plain_parts.specs.PartForms.{byte_at, digits_of, bytes_of, is_part, sign, is_weight, letters, is_literal}
use Rattle.plain_parts.specs.PartForms.{found, nothing, weight_at, is_numbered, literal_at}
use Rattle.plain_parts.specs.InWord.{PartIs, WeightIs, LiteralIs}
use Rattle.plain_parts.proofs.LaneValues.{lane-zero, lane-positive}

-- ---- a part that has been read, and its space

part-tested : (k : ℕ) (s : List ℕ) {digits taken : ℕ} → PartIs k s digits taken → is_part k s ≡ eqb (byte_at s taken) space
unfolding is_part
part-tested k s {digits} {taken} p =
    let e : bytes_of k s ≡ taken = sym p.bytes in
    rw (e, lt-ltb k taken p.some, le-leb taken 7 p.short)

literal-tested : (s : List ℕ) {negated : Bool} {digits taken : ℕ} → LiteralIs s negated digits taken
    → is_literal s ≡ eqb (byte_at s taken) space
unfolding is_literal
literal-tested s l = rw (eq-eqb (byte_at s (letters s - 1)) letter_x l.letter) (part-tested (letters s) s l.part)

-- ---- the answers for a weight

pub weight-short : (s : List ℕ) → length s < 8 → nothing ≡ weight_at s
unfolding weight_at
weight-short s h = rw (lt-leb 8 (length s) h)

module _ (s : List ℕ) (long : 8 ≤ length s) where
  pub weight-none : is_weight s ≡ false → nothing ≡ weight_at s
  unfolding weight_at
  weight-none e = rw (le-leb 8 (length s) long, e)

  module _ {negative : Bool} {digits taken : ℕ} (w : WeightIs s negative digits taken) where
    pub weight-unspaced : (byte_at s taken ≡ space → ⊥) → nothing ≡ weight_at s
    weight-unspaced n = weight-none (part-tested (sign s) s w.part ∙ ne_eqb (byte_at s taken) space n)

    pub weight-found : byte_at s taken ≡ space → {size : ℕ} → size ≡ lane_value digits → found negative size taken ≡ weight_at s
    unfolding weight_at
    weight-found e {size} q =
        let t : is_weight s ≡ true = part-tested (sign s) s w.part ∙ eq-eqb (byte_at s taken) space e in
        rw (le-leb 8 (length s) long, t, w.front, w.part.bytes, q, w.part.number)

-- ---- the answers for a literal

pub literal-short : (s : List ℕ) → length s < 8 → nothing ≡ literal_at s
unfolding literal_at
literal-short s h = rw (lt-leb 8 (length s) h)

module _ (s : List ℕ) (long : 8 ≤ length s) where
  pub literal-none : is_literal s ≡ false → nothing ≡ literal_at s
  unfolding literal_at
  literal-none e = rw (le-leb 8 (length s) long, e)

  module _ {negated : Bool} {digits taken : ℕ} (l : LiteralIs s negated digits taken) where
    pub literal-unspaced : (byte_at s taken ≡ space → ⊥) → nothing ≡ literal_at s
    literal-unspaced n = literal-none (literal-tested s l ∙ ne_eqb (byte_at s taken) space n)

    module _ (e : byte_at s taken ≡ space) where
      spaced : is_literal s ≡ true
      spaced = literal-tested s l ∙ eq-eqb (byte_at s taken) space e

      pub literal-zero : digits ≡ 0 → nothing ≡ literal_at s
      unfolding literal_at
      literal-zero z =
          let v : value (digits_of (letters s) s) ≡ 0 = sym l.part.number ∙ ap lane_value z ∙ lane-zero in
          rw (le-leb 8 (length s) long, spaced, v)

      pub literal-found : 0 < digits → digits < 2 ^ 64 → {number : ℕ} → number ≡ lane_value digits → found negated number taken ≡ literal_at s
      unfolding literal_at
      literal-found p h {number} q =
          let v : number ≡ value (digits_of (letters s) s) = q ∙ l.part.number in
          let t : 0 < number = rw q (lane-positive digits h p) in
          rw (le-leb 8 (length s) long, spaced, l.front, l.part.bytes, ← v, lt-ltb 0 number t)

-- ---- what an answer says

pub record WeightHere (s : List ℕ) (negative : Bool) (size taken : ℕ) : Type 0 where
  pub text : is_weight s ≡ true
  pub front : eqb (byte_at s 0) minus ≡ negative
  pub digits : value (digits_of (sign s) s) ≡ size
  pub bytes : bytes_of (sign s) s ≡ taken

pub weight-here : (s : List ℕ) (negative : Bool) (size taken : ℕ) → found negative size taken ≡ weight_at s
    → WeightHere s negative size taken
unfolding weight_at
weight-here s negative size taken e = by (leb 8 (length s) && is_weight s) refl e
  where
    by : (t : Bool) → leb 8 (length s) && is_weight s ≡ t
        → found negative size taken ≡ cond t (found (eqb (byte_at s 0) minus) (value (digits_of (sign s) s)) (bytes_of (sign s) s)) nothing
        → WeightHere s negative size taken
    by true q h = record { text = (both (leb 8 (length s)) (is_weight s) q).1; front = cc; digits = cc; bytes = cc }
    by false q h = never (cc)

pub no-weight-here : (s : List ℕ) → 8 ≤ length s → nothing ≡ weight_at s → is_weight s ≡ false
unfolding weight_at
no-weight-here s long e = by (is_weight s) (rw (le-leb 8 (length s) long) at e)
  where
    by : (t : Bool)
        → nothing ≡ cond t (found (eqb (byte_at s 0) minus) (value (digits_of (sign s) s)) (bytes_of (sign s) s)) nothing → t ≡ false
    by true h = never (cc)
    by false h = refl

pub record LiteralHere (s : List ℕ) (negated : Bool) (number taken : ℕ) : Type 0 where
  pub text : is_numbered s ≡ true
  pub front : eqb (byte_at s 0) tilde ≡ negated
  pub digits : value (digits_of (letters s) s) ≡ number
  pub bytes : bytes_of (letters s) s ≡ taken

pub literal-here : (s : List ℕ) (negated : Bool) (number taken : ℕ) → found negated number taken ≡ literal_at s
    → LiteralHere s negated number taken
unfolding literal_at
literal-here s negated number taken e = by (leb 8 (length s) && is_numbered s) refl e
  where
    by : (t : Bool) → leb 8 (length s) && is_numbered s ≡ t
        → found negated number taken
        ≡ cond t (found (eqb (byte_at s 0) tilde) (value (digits_of (letters s) s)) (bytes_of (letters s) s)) nothing
        → LiteralHere s negated number taken
    by true q h = record { text = (both (leb 8 (length s)) (is_numbered s) q).1; front = cc; digits = cc; bytes = cc }
    by false q h = never (cc)

pub no-literal-here : (s : List ℕ) → 8 ≤ length s → nothing ≡ literal_at s → is_numbered s ≡ false
unfolding literal_at
no-literal-here s long e = by (is_numbered s) (rw (le-leb 8 (length s) long) at e)
  where
    by : (t : Bool)
        → nothing ≡ cond t (found (eqb (byte_at s 0) tilde) (value (digits_of (letters s) s)) (bytes_of (letters s) s)) nothing → t ≡ false
    by true h = never (cc)
    by false h = refl
