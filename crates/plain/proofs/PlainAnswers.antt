-- What `plain_term` answers is what `plain_at` says: at each of its tests, in its order.
use Prim.Native.Nat.{ℕ, ◌+◌, ◌-◌, ◌≤◌, ◌<◌}
use mathlib.Core.Path.{◌≡◌, refl, sym, ap, ◌∙◌}
use mathlib.Core.Bool.{Bool, true, false, ◌&&◌}
use mathlib.Core.List.{List}
use native.Mathlib.Omega.{arith}
use borrow.Author.Tests.{le-leb, lt-leb, lt-ltb, le-ltb}
use lib.Dec.{ltb}
use lib.ListN.{length, take, drop, length-drop}
use Rattle.definitions.specs.Bytes.{space}
use Rattle.definitions.specs.declared.Options.{Options}
use Rattle.definitions.proofs.Parts.{part-is}
use Rattle.definitions.proofs.Truths.{both}
use Rattle.plain_parts.specs.PartForms.{byte_at, sign, is_weight, is_literal, nothing, weight_at, is_numbered, literal_at}
use Rattle.plain_parts.proofs.PartTests.{part_says, literal-says}
use Rattle.plain_parts.proofs.PartAnswers.{WeightHere, no-weight-here, LiteralHere, no-literal-here}
use Rattle.plain.specs.Plain.{plain, other, behind, term_bytes, term_of, is_plain, plain_at}
use Rattle.plain.specs.declared.PlainTerm.{PlainTerm}

not_plain : (o : Options) (s : List ℕ) → is_plain o s ≡ false → other ≡ plain_at o s
unfolding plain_at
not_plain o s e = rw e

pub too_short : (o : Options) (s : List ℕ) → length s < 17 → other ≡ plain_at o s
unfolding is_plain
too_short o s h = not_plain o s (rw (lt-leb 17 (length s) h))

-- four tests, the last of them third
third : (a b c d : Bool) → a && (b && (c && d)) ≡ a && ((b && d) && c)
third true true true true = refl
third true true true false = refl
third true true false true = refl
third true true false false = refl
third true false c d = refl
third false b c d = refl

no_third : (a c : Bool) → a && (false && c) ≡ false
no_third true c = refl
no_third false c = refl

module _ (o : Options) (s : List ℕ) (long : 17 ≤ length s) where
  pub first_above : 1 < o.first → other ≡ plain_at o s
  unfolding is_plain
  first_above h = not_plain o s (rw (le-leb 17 (length s) long, lt-leb o.first 1 h))

  module _ (first : o.first ≤ 1) where
    parts-tested : is_plain o s ≡ is_weight s && (is_numbered (behind s) && ltb space (byte_at s (term_bytes s)))
    unfolding is_plain
    parts-tested =
        rw (le-leb 17 (length s) long, le-leb o.first 1 first)
        (third (is_weight s) (is_literal (behind s)) (ltb space (byte_at s (term_bytes s))) (ltb 0 (term_of s).number))

    pub no-weight : nothing ≡ weight_at s → other ≡ plain_at o s
    no-weight e = not_plain o s (parts-tested ∙ rw (no-weight-here s (omega arith) e))

-- ---- the weight has been read
module _ (s : List ℕ) {negative : Bool} {size gap : ℕ} (weight : WeightHere s negative size gap) where
  pub gap-short : gap ≤ 7
  gap-short = omega (arith, (part_says (sign s) s weight.text).short, weight.bytes)

  behind-is : drop (gap + 1) s ≡ behind s
  unfolding behind
  behind-is = rw weight.bytes

  pub literal-part : take (length s - (gap + 1)) (drop (gap + 1) s) ≡ behind s
  literal-part = part-is s (gap + 1) ∙ behind-is

  module _ (o : Options) (room : 17 ≤ length s) (first : o.first ≤ 1) where
    pub no-literal : nothing ≡ literal_at (behind s) → other ≡ plain_at o s
    no-literal e =
        let l : length (behind s) ≡ length s - (gap + 1) = ap length (sym behind-is) ∙ length-drop (gap + 1) s in
        let n = no-literal-here (behind s) (omega (arith, gap-short)) e in
        not_plain o s (parts-tested o s room first ∙ rw n (no_third (is_weight s) (ltb space (byte_at s (term_bytes s)))))

    -- ---- and the literal
    module _ {negated : Bool} {number long : ℕ} (lit : LiteralHere (behind s) negated number long) where
      pub long-short : long ≤ 7
      long-short =
          let l = (both (is_literal (behind s)) _ lit.text).0 in
          omega (arith, (literal-says (behind s) l).part.short, lit.bytes)

      bytes-are : term_bytes s ≡ gap + long + 2
      unfolding term_bytes
      bytes-are = rw (weight.bytes, lit.bytes)

      tested : is_plain o s ≡ ltb space (byte_at s (gap + long + 2))
      tested = parts-tested o s room first ∙ rw (weight.text, lit.text, bytes-are)

      pub two-blanks : byte_at s (gap + long + 2) ≤ space → other ≡ plain_at o s
      two-blanks h = not_plain o s (tested ∙ le-ltb space (byte_at s (gap + long + 2)) h)

      pub plain-found : (p : PlainTerm) → p.negative ≡ negative → p.size ≡ size → p.negated ≡ negated → p.number ≡ number
          → space < byte_at s (gap + long + 2) → plain p (gap + long + 2) ≡ plain_at o s
      unfolding plain_at
      plain-found p a b c d h =
          let t : term_of s ≡ p = rw (weight.front, weight.digits, lit.front, lit.digits, ← a, ← b, ← c, ← d) in
          rw (tested, lt-ltb space (byte_at s (gap + long + 2)) h, bytes-are, t)
