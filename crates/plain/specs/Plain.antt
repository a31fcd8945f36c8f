-- Which terms are plain? `-12 ~x345 `: a weight of at most seven bytes, `-` or nothing and digits; one space; a literal
-- of at most seven bytes, `x` or `~x` and digits, a file number above 0; one space, and no blank behind it. At least 17
-- bytes are left, and the first index is 0 or 1. Weight and literal with their spaces are defined in plain_parts.
use Rattle.std.specs.Prelude.{ℕ, ◌+◌, ◌-◌, ◌≤◌, ◌<◌, ◌≡◌, Bool, cond, ◌&&◌, List, eqb, leb, ltb, length, drop, Option, Some, None}
use Rattle.definitions.specs.Bytes.{space, minus, tilde}
use Rattle.definitions.specs.Number.{value, signed}
use Rattle.definitions.specs.Literal.{code_of}
use Rattle.definitions.specs.Walk.{item}
use Rattle.definitions.specs.Row.{Term, term}
use Rattle.definitions.specs.Text.{term_step}
use Rattle.definitions.specs.declared.Options.{Options}
use Rattle.plain_parts.specs.PartForms.{byte_at, digits_of, bytes_of, sign, is_weight, letters, is_literal}
use Rattle.plain.specs.declared.PlainTerm.{PlainTerm}

-- a plain term at the front of a text and the bytes that it takes, or none there
pub data Plain : Type 0 where
  plain : PlainTerm → ℕ → Plain
  other : Plain

abbrev pub said_plain : Option (PlainTerm × ℕ) → Plain
said_plain (Some (p, n)) = plain p n
said_plain None = other

-- ---- a term

-- what is left behind a weight and its space
unfoldable pub behind : List ℕ → List ℕ
behind s = drop (bytes_of (sign s) s + 1) s

-- weight and literal, a space behind each
unfoldable pub term_bytes : List ℕ → ℕ
term_bytes s = bytes_of (sign s) s + bytes_of (letters (behind s)) (behind s) + 2

abbrev pub term_of : List ℕ → PlainTerm
term_of s = record {
  negative = eqb (byte_at s 0) minus;
  size = value (digits_of (sign s) s);
  negated = eqb (byte_at (behind s) 0) tilde;
  number = value (digits_of (letters (behind s)) (behind s));
}

-- a blank is at most a space
unfoldable pub is_plain : Options → List ℕ → Bool
is_plain o s =
    leb 17 (length s) && (leb o.first 1 && (is_weight s && (is_literal (behind s)
    && (ltb space (byte_at s (term_bytes s)) && ltb 0 (term_of s).number))))

unfoldable pub plain_at : Options → List ℕ → Plain
plain_at o s = cond (is_plain o s) (plain (term_of s) (term_bytes s)) other

-- ---- what a plain term is to others

-- its weight and its literal's code
abbrev pub plain_term : ℕ → PlainTerm → Term
plain_term first p = term (signed p.negative p.size) (code_of p.negated (p.number - first))

-- its numbers are within the columns'
pub record PlainFits (first : ℕ) (p : PlainTerm) : Type 0 where
  pub size : p.size < 100_000_000
  pub least : first ≤ p.number
  pub most : p.number < 100_000_000

-- it is what `term_step` reads there
pub record PlainIs (o : Options) (s : List ℕ) (p : PlainTerm) (n : ℕ) : Type 0 where
  pub step : term_step o s ≡ item (plain_term o.first p) n
  pub fits : PlainFits o.first p
