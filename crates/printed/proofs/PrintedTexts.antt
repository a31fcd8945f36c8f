-- The text of a printed row: what stands around its terms, and the whole of it.
use mathlib.Core.Path.{◌≡◌, refl, ap, ap₂, ◌∙◌}
use mathlib.Core.Bool.{Bool, true, false}
use mathlib.Core.List.{List, [], ◌∷◌, ◌++◌, map}
use Prim.Native.Nat.{ℕ, zero, suc, ◌+◌}
use native.Mathlib.Omega.{arith}
use lib.IntN.{ℤ, pos, negsuc}
use lib.ListN.{length, length-append}
use Rattle.definitions.specs.Lists.{joined}
use Rattle.definitions.specs.Bytes.{min_text}
use Rattle.definitions.specs.Number.{integer_text}
use Rattle.definitions.specs.Row.{Term, Row, row_of}
use Rattle.definitions.specs.Write.{term_text, spaced, apart, closed, remark_text, offset_words, is_zero, offset_text, comparison_text, text_by}
use Rattle.definitions.specs.Write.{row_text, printed}
use Rattle.definitions.specs.declared.Kind.{Kind}
use Rattle.definitions.specs.declared.Kind.TheVariants.{AtLeast as at_least, AtMost as at_most, Equal as equal, Objective as objective}
use Rattle.definitions.specs.Back.{is_goal}
use Rattle.definitions.proofs.MeansBack.{shown_kind, printed-kind}
use Rattle.shown.specs.declared.terms.Style.{Style}
use Rattle.printed.specs.Kinds.{is_at_most, is_equal}
use Rattle.shown.specs.Terms.{shown_term, spaced_by, shown_text, terms_text}
use Rattle.printed.specs.Rows.{operator_text}
use Rattle.definitions.proofs.Truths.{one_truth}
use Rattle.printed.proofs.PrintedRows.{printed-terms}

-- ---- an offset

pub not-zero : (z : ℤ) → (z ≡ pos 0 → ⊥) → is_zero z ≡ false
not-zero (pos zero) h = absurd (h refl)
not-zero (pos (suc n)) h = refl
not-zero (negsuc n) h = refl

pub some-offset : (z : ℤ) → (z ≡ pos 0 → ⊥) → offset_text z ≡ remark_text (offset_words ++ integer_text z)
unfolding offset_text
some-offset z h = rw (not-zero z h)

-- ---- lengths

pub remark-length : (t : List ℕ) → length (remark_text t) ≡ length t + 3
unfolding remark_text
remark-length t = omega (arith, length-append t (10 ∷ []))

pub operator-other : (k : Kind) → is_equal k ≡ false → operator_text k ≡ 62 ∷ 61 ∷ []
operator-other k e = rw e

module _ (z : ℤ) where
  pub comparison-length : (op : List ℕ) → length (comparison_text op z) ≡ length op + length (integer_text z) + 3
  unfolding comparison_text
  comparison-length op = omega (arith, length-append op (32 ∷ (integer_text z ++ closed)), length-append (integer_text z) closed)

  pub offset-length : (z ≡ pos 0 → ⊥) → length (offset_text z) ≡ length (integer_text z) + 44
  offset-length h =
      let w : length offset_words ≡ 41 = refl in
      omega (arith, ap length (some-offset z h), remark-length (offset_words ++ integer_text z), length-append offset_words (integer_text z))

-- ---- the text of the printed row

module _ (n : ℕ) (t : Term) where
  spaced-is : (b : Bool) → b ≡ false → spaced n t ≡ spaced_by b (term_text n t)
  unfolding spaced
  spaced-is true e = absurd (one_truth true refl e)
  spaced-is false e = refl

  apart-is : (b : Bool) → b ≡ true → apart n t ≡ spaced_by b (term_text n t)
  unfolding apart
  apart-is true e = refl
  apart-is false e = absurd (one_truth false e refl)

module _ (s : Style) where
  terms-spaced : s.apart ≡ false → (ts : List Term) → joined (spaced s.first) (map (shown_term s) ts) ≡ terms_text s ts
  unfolding joined terms_text shown_text
  terms-spaced a [] = refl
  terms-spaced a (t ∷ ts) = ap₂ (λ (x y : List ℕ). x ++ y) (spaced-is s.first (shown_term s t) s.apart a) (terms-spaced a ts)

  terms-apart : s.apart ≡ true → (ts : List Term) → joined (apart s.first) (map (shown_term s) ts) ≡ terms_text s ts
  unfolding joined terms_text shown_text
  terms-apart a [] = refl
  terms-apart a (t ∷ ts) = ap₂ (λ (x y : List ℕ). x ++ y) (apart-is s.first (shown_term s t) s.apart a) (terms-apart a ts)

module _ (k : Kind) (b : ℤ) (ts : List Term) (s : Style) (f : s.flip ≡ is_at_most k) (a : s.apart ≡ is_goal k) where
  abbrev line_of : Row
  line_of = printed s.plain (row_of k b ts)

  by_kind : row_text s.first line_of ≡ text_by (shown_kind k) s.first line_of.bound (map (shown_term s) ts)
  unfolding row_text
  by_kind = rw (printed-kind s.plain (row_of k b ts), printed-terms k b ts s f)

  pub constraint-text : is_goal k ≡ false
      → row_text s.first line_of ≡ terms_text s ts ++ comparison_text (operator_text k) line_of.bound
  constraint-text o = by_kind ∙ cases k o (terms-spaced s (a ∙ o) ts)
    where
      cases : (k : Kind) → is_goal k ≡ false → joined (spaced s.first) (map (shown_term s) ts) ≡ terms_text s ts
          → text_by (shown_kind k) s.first line_of.bound (map (shown_term s) ts)
          ≡ terms_text s ts ++ comparison_text (operator_text k) line_of.bound
      cases at_least o e = rw e
      cases at_most o e = rw e
      cases equal o e = rw e
      cases objective o e = absurd (one_truth true refl o)

  pub objective-text : is_goal k ≡ true
      → row_text s.first line_of ≡ min_text ++ (terms_text s ts ++ (closed ++ offset_text line_of.bound))
  objective-text o = by_kind ∙ cases k o (terms-apart s (a ∙ o) ts)
    where
      cases : (k : Kind) → is_goal k ≡ true → joined (apart s.first) (map (shown_term s) ts) ≡ terms_text s ts
          → text_by (shown_kind k) s.first line_of.bound (map (shown_term s) ts)
          ≡ min_text ++ (terms_text s ts ++ (closed ++ offset_text line_of.bound))
      cases at_least o e = absurd (one_truth false o refl)
      cases at_most o e = absurd (one_truth false o refl)
      cases equal o e = absurd (one_truth false o refl)
      cases objective o e = rw e
