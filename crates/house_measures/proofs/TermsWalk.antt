-- The walk over the terms of a row: what holds of the text of the first of them, and what is left.
use mathlib.Core.Path.{◌≡◌, refl, sym, ap, ◌∙◌}
use mathlib.Core.Bool.{Bool, true, false, ◌&&◌}
use mathlib.Core.List.{List, [], ◌∷◌, ◌++◌, append_assoc, append-nil}
use Prim.Native.Nat.{ℕ, ◌+◌, ◌≤◌, ◌<◌}
use native.Mathlib.Omega.{arith}
use lib.IntN.{ℤ, pos}
use lib.ListN.{length, get_or, drop, length-append}
use Rattle.definitions.specs.Lists.{joined}
use Rattle.definitions.specs.Literal.{index_of, file_number}
use Rattle.definitions.specs.Row.{Term, term}
use Rattle.definitions.specs.Table.{terms_on}
use Rattle.definitions.specs.Write.{is_accepted, numbered}
use Rattle.definitions.specs.House.{term_fields}
use Rattle.definitions.proofs.Truths.{never}
use Rattle.term_checks.proofs.Terms.{terms-from, terms-end}

both : (x y : Bool) → x && y ≡ true → x ≡ true
both true y e = refl
both false y e = never (cc)

-- the first i of them have their file numbers, of their text P holds, and the rest is left
pub record TermsAt (first : ℕ) (ws : List ℤ) (cs : List ℕ) (i : ℕ) (P : List ℕ → Type 0) : Type 0 where
  pub within : i ≤ length cs
  pub numbers : numbered first (terms_on ws cs) ≡ numbered first (terms_on (drop i ws) (drop i cs))
  pub text : List ℕ
  pub split : joined (term_fields first) (terms_on ws cs) ≡ text ++ joined (term_fields first) (terms_on (drop i ws) (drop i cs))
  pub holds : P text

pub terms-none : (first : ℕ) (ws : List ℤ) (cs : List ℕ) {P : List ℕ → Type 0} → P [] → TermsAt first ws cs 0 P
terms-none first ws cs p = record { within = omega arith; numbers = refl; text = []; split = refl; holds = p }

module _ {first : ℕ} {ws : List ℤ} {cs : List ℕ} {i : ℕ} {P : List ℕ → Type 0} (t : TermsAt first ws cs i P)
    (long : length ws ≡ length cs) where
  module _ (h : i < length cs) where
    abbrev pub here : Term
    here = term (get_or ws i (pos 0)) (get_or cs i 0)

    abbrev has_number : Bool
    has_number = is_accepted (file_number first (index_of (get_or cs i 0)))

    left : terms_on (drop i ws) (drop i cs) ≡ here ∷ terms_on (drop (i + 1) ws) (drop (i + 1) cs)
    left = terms-from ws cs i (omega arith) h

    rest : joined (term_fields first) (terms_on (drop i ws) (drop i cs)) ≡ term_fields first here ++ joined (term_fields first)
        (terms_on (drop (i + 1) ws) (drop (i + 1) cs))
    unfolding joined
    rest = ap (joined (term_fields first)) left

    rest-numbers : numbered first (terms_on ws cs) ≡ has_number && numbered first (terms_on (drop (i + 1) ws) (drop (i + 1) cs))
    unfolding numbered
    rest-numbers = t.numbers ∙ ap (numbered first) left

    pub terms-more : {Q : List ℕ → Type 0} → has_number ≡ true → Q (t.text ++ term_fields first here) → TermsAt first ws cs (i + 1) Q
    terms-more n q =
        record {
          within = omega arith;
          numbers = rest-numbers ∙ rw n;
          text = t.text ++ term_fields first here;
          split = t.split ∙ rw rest (sym (append_assoc t.text (term_fields first here) _));
          holds = q;
        }

    -- the text of one term more is within the whole
    pub terms-within : length t.text + length (term_fields first here) ≤ length (joined (term_fields first) (terms_on ws cs))
    terms-within =
        let tail = joined (term_fields first) (terms_on (drop (i + 1) ws) (drop (i + 1) cs)) in
        omega (
          arith,
          ap length t.split,
          length-append t.text
              (joined (term_fields first) (terms_on (drop i ws) (drop i cs))),
          ap length rest,
          length-append (term_fields first here) tail,
        )

    -- where all have their file numbers this one has, and where this one has none not all have
    pub terms-number : numbered first (terms_on ws cs) ≡ true → has_number ≡ true
    terms-number e = both has_number _ (sym rest-numbers ∙ e)

    pub terms-unnumbered : has_number ≡ false → numbered first (terms_on ws cs) ≡ false
    terms-unnumbered e = rest-numbers ∙ rw e

  module _ (h : length cs ≤ i) where
    none_left : terms_on (drop i ws) (drop i cs) ≡ []
    none_left = terms-end ws cs i (omega arith)

    pub terms-all : P (joined (term_fields first) (terms_on ws cs))
    unfolding joined
    terms-all =
        let whole : joined (term_fields first) (terms_on ws cs) ≡ t.text = t.split ∙ rw none_left (append-nil t.text) in
        rw whole t.holds

    pub terms-numbered : numbered first (terms_on ws cs) ≡ true
    unfolding numbered
    terms-numbered = t.numbers ∙ rw none_left
