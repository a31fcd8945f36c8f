-- Laws of one printed term: what is shown of it, and the length of its text.
use mathlib.Core.Path.{◌≡◌, refl, sym, ap, ◌∙◌}
use mathlib.Core.Bool.{Bool, true, false, cond}
use mathlib.Core.List.{List, [], ◌∷◌, ◌++◌}
use Prim.Native.Nat.{ℕ, ◌+◌, ◌<◌, zero, suc}
use native.Mathlib.Omega.{arith}
use borrow.Author.Tests.{ltb-true}
use lib.IntN.{ℤ, pos, negsuc, neg_ℤ, ◌-ℤ◌, +ℤ_idl}
use lib.Signed.{lt_z, non_neg}
use mir.Syntax.{w64}
use mir.Val.{SFits}
use lib.ListN.{length, length-append}
use Rattle.definitions.specs.Bytes.{space}
use Rattle.definitions.specs.Literal.{index_of, negated, plain}
use Rattle.definitions.specs.Number.{decimal, integer_text}
use Rattle.definitions.specs.Row.{Term, term}
use Rattle.definitions.specs.Write.{flip_term, plain_term, unit_term, term_text, literal_text, number_text}
use Rattle.definitions.proofs.Meanings.{opposite-half, plain-half, plain-not-negated}
use Rattle.literals.specs.declared.Var.{Var}
use Rattle.shown.specs.declared.terms.Style.{Style}
use Rattle.shown.specs.declared.terms.Shown.{Shown}
use Rattle.shown.specs.Terms.{flipped_code, own_weight, own_term, flipped_term, plained_term, shown_term, fallen}
use Rattle.shown.specs.Terms.{Shows}
use Rattle.shown.specs.Terms.{literal_words, term_words, spaced_by, shown_text}

-- ---- what is shown of a term

flipped-is : (flip : Bool) (w : ℤ) (c : ℕ) → flipped_term flip (term w c) ≡ term w (flipped_code flip c)
unfolding flip_term
flipped-is true w c = refl
flipped-is false w c = refl

pub own-term : (unit : Bool) (w : ℤ) (c : ℕ) → term (own_weight unit w) c ≡ own_term unit (term w c)
unfolding unit_term
own-term true w c = refl
own-term false w c = refl

-- a weight below 0 or not
pub below-zero : (w : ℤ) → lt_z w (pos 0) ≡ true → non_neg w ≡ false
below-zero (pos n) t = let h : n < 0 = ltb-true n 0 t in absurd (omega arith)
below-zero (negsuc n) t = refl

pub from_zero : (w : ℤ) → lt_z w (pos 0) ≡ false → non_neg w ≡ true
from_zero (pos n) t = refl
from_zero (negsuc n) t = let z : ◌≡◌ {A = ℕ} 0 1 = cc in absurd (omega arith)

module _ (s : Style) (w : ℤ) (c : ℕ) (v : Var) (i : v.0 ≡ index_of c) (o z : ℤ) (w-is : o ≡ w) where
  abbrev turned : ℕ
  turned = flipped_code s.flip c

  -- of a weight below 0
  pub shows-below : lt_z w (pos 0) ≡ true → z ≡ w
      → Shows s (term w c) (record { own = o; weight = z; tilde = false; var = v; falls = false })
  shows-below t e =
      let n = below-zero w t in
      record { own = w-is; weight = rw n e; tilde = rw n; var = i; falls = rw n }

  module _ (t : lt_z w (pos 0) ≡ false) where
    -- by the term that is printed, and whether the bound falls
    shows-by : (u : Term) (b tilde : Bool) → shown_term s (term w c) ≡ u → fallen s (term w c) ≡ b → z ≡ u.weight
        → tilde ≡ negated u.code
        → Shows s (term w c) (record { own = o; weight = z; tilde = tilde; var = v; falls = b })
    shows-by u b tilde e f a n =
        let q = from_zero w t in
        record {
          own = w-is;
          weight = rw q (a ∙ sym (ap (λ (x : Term). x.weight) e));
          tilde = rw q (n ∙ sym (ap (λ (x : Term). negated x.code) e));
          var = i;
          falls = rw q (sym f);
        }

    as-it-is : s.plain ≡ false → shown_term s (term w c) ≡ term w turned
    unfolding shown_term
    as-it-is p = rw (p, flipped-is s.flip w c)

    unnegated : s.plain ≡ true → shown_term s (term w c) ≡ term (cond (negated turned) (neg_ℤ w) w) (plain turned)
    unfolding shown_term plain_term
    unnegated p = rw (p, flipped-is s.flip w c)

    -- a negated literal in no-negated mode
    pub shows-fallen : s.plain ≡ true → negated turned ≡ true → z ≡ neg_ℤ w
        → Shows s (term w c) (record { own = o; weight = z; tilde = false; var = v; falls = true })
    unfolding fallen
    shows-fallen p n e =
        shows-by (term (neg_ℤ w) (plain turned)) true false (unnegated p ∙ rw n) (rw (p, n)) e (sym (plain-not-negated turned))

    -- a negated literal with its `~`
    pub shows-negated : s.plain ≡ false → negated turned ≡ true → z ≡ w
        → Shows s (term w c) (record { own = o; weight = z; tilde = true; var = v; falls = false })
    unfolding fallen
    shows-negated p n e = shows-by (term w turned) false true (as-it-is p) (rw p) e (sym n)

    -- a plain literal, in either mode
    pub shows-plain : negated turned ≡ false → z ≡ w
        → Shows s (term w c) (record { own = o; weight = z; tilde = false; var = v; falls = false })
    unfolding fallen
    shows-plain n e = cases s.plain refl
      where
        cases : (b : Bool) → s.plain ≡ b → Shows s (term w c) (record { own = o; weight = z; tilde = false; var = v; falls = false })
        cases true p = shows-by (term w (plain turned)) false false (unnegated p ∙ rw n) (rw (p, n)) e (sym (plain-not-negated turned))
        cases false p = shows-by (term w turned) false false (as-it-is p) (rw p) e (sym n)

pub shows-as : {s : Style} {t t' : Term} {x : Shown} → Shows s t x → t ≡ t' → Shows s t' x
shows-as h e = rw e at h

pub shown-index : (s : Style) (t : Term) → index_of (shown_term s t).code ≡ index_of t.code
unfolding shown_term flip_term plain_term
shown-index s t = plained s.plain (flipped_term s.flip t) ∙ turned-index s.flip
  where
    plained : (b : Bool) (t : Term) → index_of (plained_term b t).code ≡ index_of t.code
    plained true t = plain-half t.code
    plained false t = refl

    turned-index : (b : Bool) → index_of (flipped_term b t).code ≡ index_of t.code
    turned-index true = opposite-half t.code
    turned-index false = refl

-- a number from 0 up is negated within 64 bits
pub negative_fits : (w : ℤ) → SFits w64 w → lt_z w (pos 0) ≡ false → SFits w64 (pos 0 -ℤ w)
negative_fits w f n = rw (+ℤ_idl (neg_ℤ w)) (by w f n)
  where
    by : (w : ℤ) → SFits w64 w → lt_z w (pos 0) ≡ false → SFits w64 (neg_ℤ w)
    by (pos zero) f n = record { sfits = omega arith }
    by (pos (suc k)) f n = record { sfits = omega (arith, f.sfits) }
    by (negsuc k) f n = let z : ◌≡◌ {A = ℕ} 0 1 = cc in absurd (omega arith)

-- ---- the length of a term's text

pub term-words-length : (t : Shown) (n : ℕ) → length (term_words t n) ≡ length (integer_text t.weight) + length (literal_words t.tilde n)
unfolding term_words
term-words-length t n = length-append (integer_text t.weight) (literal_words t.tilde n)

pub literal-words-tilde : (tilde : Bool) (n : ℕ) → tilde ≡ true → length (literal_words tilde n) ≡ length (decimal n) + 3
literal-words-tilde true n e = omega arith
literal-words-tilde false n e = let z : ◌≡◌ {A = ℕ} 0 1 = cc in absurd (omega arith)

pub literal-words-plain : (tilde : Bool) (n : ℕ) → tilde ≡ false → length (literal_words tilde n) ≡ length (decimal n) + 2
literal-words-plain true n e = let z : ◌≡◌ {A = ℕ} 0 1 = cc in absurd (omega arith)
literal-words-plain false n e = omega arith

module _ (t : Shown) (n : ℕ) where
  pub term-words-tilde : t.tilde ≡ true → length (term_words t n) ≡ length (integer_text t.weight) + (length (decimal n) + 3)
  term-words-tilde e = omega (arith, term-words-length t n, literal-words-tilde t.tilde n e)

  pub term-words-plain : t.tilde ≡ false → length (term_words t n) ≡ length (integer_text t.weight) + (length (decimal n) + 2)
  term-words-plain e = omega (arith, term-words-length t n, literal-words-plain t.tilde n e)

pub spaced-length : (before : Bool) (s : List ℕ) → length (spaced_by before s) ≡ length s + 1
spaced-length true s = omega arith
spaced-length false s = length-append s (space ∷ [])

-- ---- the text of a term of the row, whose file number is known

module _ {s : Style} {t : Term} {x : Shown} (h : Shows s t x) where
  pub shown-falls : non_neg t.weight ≡ true → x.falls ≡ fallen s t
  shown-falls w = h.falls ∙ rw w

  literal-is : (b : Bool) (v n : ℕ) → n ≡ v + s.first
      → literal_words b n ≡ 32 ∷ cond b (126 ∷ 120 ∷ number_text s.first v) (120 ∷ number_text s.first v)
  unfolding number_text
  literal-is true v n e = rw e
  literal-is false v n e = rw e

  shown-words : (n : ℕ) → non_neg t.weight ≡ true → n ≡ index_of t.code + s.first → term_words x n ≡ term_text s.first (shown_term s t)
  unfolding term_words term_text literal_text
  shown-words n w e =
      let v : n ≡ index_of (shown_term s t).code + s.first = e ∙ ap (λ (v : ℕ). v + s.first) (sym (shown-index s t)) in
      let z : x.weight ≡ (shown_term s t).weight = h.weight ∙ rw w in
      let b : x.tilde ≡ negated (shown_term s t).code = h.tilde ∙ rw w in
      rw (z, b)
      (ap (λ (l : List ℕ). integer_text (shown_term s t).weight ++ l)
      (literal-is (negated (shown_term s t).code) (index_of (shown_term s t).code) n v))

  pub spaced-words : (n : ℕ) → non_neg t.weight ≡ true → n ≡ index_of t.code + s.first
      → spaced_by s.apart (term_words x n) ≡ shown_text s t
  unfolding shown_text
  spaced-words n w e = ap (spaced_by s.apart) (shown-words n w e)
