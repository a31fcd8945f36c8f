-- What the tests of specs/Plain.antt say where they are passed.
use mathlib.Core.Path.{◌≡◌, refl}
use mathlib.Core.Bool.{Bool, true, false, cond, ◌&&◌}
use mathlib.Core.List.{List}
use Prim.Native.Nat.{ℕ, ◌≤◌, ◌<◌}
use borrow.Author.Tests.{leb-true, ltb-true}
use lib.Dec.{ltb, leb}
use lib.ListN.{length}
use Rattle.definitions.specs.Bytes.{space}
use Rattle.definitions.specs.declared.Options.{Options}
use Rattle.definitions.proofs.Truths.{both, never}
use Rattle.plain_parts.specs.PartForms.{byte_at, sign, is_weight, is_literal}
use Rattle.plain_parts.proofs.PartTests.{Part, part_says, Literal, literal-says}
use Rattle.plain.specs.Plain.{plain, other, behind, term_bytes, term_of, is_plain, plain_at}
use Rattle.plain.specs.declared.PlainTerm.{PlainTerm}

pub record PlainText (o : Options) (s : List ℕ) : Type 0 where
  pub long : 17 ≤ length s
  pub first : o.first ≤ 1
  pub weight : Part (sign s) s
  pub literal : Literal (behind s)
  pub end : space < byte_at s (term_bytes s)
  pub number : 0 < (term_of s).number

plain-says : (o : Options) (s : List ℕ) → is_plain o s ≡ true → PlainText o s
unfolding is_plain
plain-says o s e =
    let a = both (leb 17 (length s)) (leb o.first 1 &&
    (is_weight s && (is_literal (behind s) && (ltb space (byte_at s (term_bytes s)) && ltb 0 (term_of s).number)))) e in
    let b = both (leb o.first 1)
    (is_weight s && (is_literal (behind s) && (ltb space (byte_at s (term_bytes s)) && ltb 0 (term_of s).number))) a.1 in
    let c = both (is_weight s) (is_literal (behind s) && (ltb space (byte_at s (term_bytes s)) && ltb 0 (term_of s).number)) b.1 in
    let d = both (is_literal (behind s)) (ltb space (byte_at s (term_bytes s)) && ltb 0 (term_of s).number) c.1 in
    let f = both (ltb space (byte_at s (term_bytes s))) (ltb 0 (term_of s).number) d.1 in
    record {
      long = leb-true 17 (length s) a.0;
      first = leb-true o.first 1 b.0;
      weight = part_says (sign s) s c.0;
      literal = literal-says (behind s) d.0;
      end = ltb-true space (byte_at s (term_bytes s)) f.0;
      number = ltb-true 0 (term_of s).number f.1;
    }

-- a text that is said to have a plain term
pub record PlainHere (o : Options) (s : List ℕ) (p : PlainTerm) (n : ℕ) : Type 0 where
  pub text : PlainText o s
  pub term : term_of s ≡ p
  pub bytes : term_bytes s ≡ n

pub plain_here : (o : Options) (s : List ℕ) (p : PlainTerm) (n : ℕ) → plain_at o s ≡ plain p n → PlainHere o s p n
unfolding plain_at
plain_here o s p n e = by (is_plain o s) refl e
  where
    by : (t : Bool) → is_plain o s ≡ t → cond t (plain (term_of s) (term_bytes s)) other ≡ plain p n → PlainHere o s p n
    by true q h = record { text = plain-says o s q; term = cc; bytes = cc }
    by false q h = never (cc)
