-- The pieces of a row that is allowed are its line: behind one another they are the text of the printed row, so where
-- that fits, it is put.
use Prim.Native.Nat.{ℕ, ◌+◌, ◌≤◌}
use mathlib.Core.Path.{◌≡◌, refl, sym, ap, ap₂, ◌∙◌}
use mathlib.Core.Bool.{Bool, true, false, cond}
use mathlib.Core.List.{List, [], ◌∷◌, ◌++◌, append_assoc, append-nil}
use native.Mathlib.Omega.{arith}
use lib.IntN.{ℤ}
use lib.Signed.{non_neg}
use lib.ListN.{length}
use Rattle.definitions.specs.Lists.{joined}
use Rattle.definitions.specs.Bytes.{bytes, min_text, space}
use Rattle.definitions.specs.Number.{integer_text}
use Rattle.definitions.specs.Literal.{index_of, file_number}
use Rattle.definitions.specs.Row.{Term, Row}
use Rattle.definitions.specs.Write.{closed, is_zero, remark_text, offset_words, offset_text, comparison_text, row_text, printed, is_accepted}
use Rattle.definitions.specs.Write.{weighs, numbered, bounded}
use Rattle.definitions.specs.Back.{is_goal}
use Rattle.definitions.specs.declared.Mode.{Mode}
use Rattle.definitions.proofs.Columns.{joined-append}
use Rattle.definitions.proofs.Truths.{both}
use Rattle.laws.proofs.Puts.{Puts, puts-as}
use Rattle.puts.specs.SeveralPuts.{LandsEach}
use Rattle.puts.proofs.SeveralLaws.{all_of, each_puts}
use Rattle.printed.specs.declared.kinds.Shape.{Shape}
use Rattle.shown.specs.declared.terms.Style.{Style}
use Rattle.shown.specs.declared.terms.Shown.{Shown}
use Rattle.shown.specs.declared.sums.Sums.{Sums}
use Rattle.printed.specs.Kinds.{style_of}
use Rattle.shown.specs.Terms.{literal_words, term_words, spaced_by, fallen, shown_text, terms_text, own_terms}
use Rattle.shown.specs.Sums.{no_sums, sums_with, summed}
use Rattle.printed.specs.Rows.{row_on, operator_text}
use Rattle.shown.proofs.OneTerm.{spaced-words}
use Rattle.printed.proofs.PrintedRows.{bound-by-sums}
use Rattle.printed.proofs.PrintedTexts.{constraint-text, objective-text}
use Rattle.lines.specs.LinePieces.{term_pieces, shown_pieces, shown_of, terms_pieces, sums_of, offset_pieces, bound_of}
use Rattle.lines.specs.LinePieces.{head_pieces, tail_pieces, row_pieces}

all_append : (xs ys : List (List ℕ)) → all_of (xs ++ ys) ≡ all_of xs ++ all_of ys
all_append = joined-append (λ (t : List ℕ). t)

-- ---- a term

term-all : (apart : Bool) (x : Shown) (n : ℕ) → all_of (term_pieces apart x n) ≡ spaced_by apart (term_words x n)
unfolding joined term_words
term-all true x n = rw (append-nil (literal_words x.tilde n))
term-all false x n = sym (append_assoc (integer_text x.weight) (literal_words x.tilde n) (space ∷ []))

module _ (s : Style) where
  shown-all : (t : Term) → non_neg t.weight ≡ true → is_accepted (file_number s.first (index_of t.code)) ≡ true
      → all_of (shown_pieces s (shown_of s t)) ≡ shown_text s t
  shown-all t w n =
      let x = shown_of s t in
      rw n
      (term-all s.apart x (index_of t.code + s.first)
      ∙ spaced-words {x = x} (record { own = refl; weight = refl; tilde = refl; var = refl; falls = refl })
      (index_of t.code + s.first) w refl)

  terms-all : (ts : List Term) → weighs ts ≡ true → numbered s.first ts ≡ true → all_of (terms_pieces s ts) ≡ terms_text s ts
  unfolding terms_pieces terms_text joined weighs numbered
  terms-all [] w n = refl
  terms-all (t ∷ ts) w n =
      let a = is_accepted (file_number s.first (index_of t.code)) in
      all_append (shown_pieces s (shown_of s t)) (terms_pieces s ts)
      ∙ ap₂ (λ (x y : List ℕ). x ++ y)
      (shown-all t (both (non_neg t.weight) (weighs ts) w).0 (both a (numbered s.first ts) n).0)
      (terms-all ts (both (non_neg t.weight) (weighs ts) w).1 (both a (numbered s.first ts) n).1)

  sums-are : (a : Sums) (ts : List Term) → weighs ts ≡ true → sums_of s a ts ≡ summed s a ts
  unfolding sums_of summed weighs
  sums-are a [] w = refl
  sums-are a (t ∷ ts) w =
      rw (both (non_neg t.weight) (weighs ts) w).0
      (sums-are (sums_with a t.weight (fallen s t)) ts (both (non_neg t.weight) (weighs ts) w).1)

-- ---- what stands behind the terms

comparison-all : (op : List ℕ) (z : ℤ) → all_of ((op ++ (space ∷ [])) ∷ integer_text z ∷ closed ∷ []) ≡ comparison_text op z
unfolding joined comparison_text
comparison-all op z = append_assoc op (space ∷ []) (integer_text z ++ closed)

offset-all : (z : ℤ) → all_of (offset_pieces z) ≡ offset_text z
unfolding joined offset_text remark_text
offset-all z = by (is_zero z)
  where
    by : (b : Bool) → all_of (cond b [] (bytes "* objective offset for previous objective: " ∷ integer_text z ∷ bytes "\n" ∷ []))
        ≡ cond b [] (remark_text (offset_words ++ integer_text z))
    by true = refl
    by false = ap (λ (l : List ℕ). 42 ∷ 32 ∷ l) (sym (append_assoc offset_words (integer_text z) (10 ∷ [])))

-- ---- a row

module _ (m : Mode) (s : Shape) (ws : List ℤ) (cs : List ℕ) where
  abbrev terms : List Term
  terms = own_terms s.unit ws cs

  abbrev style : Style
  style = style_of s m

  abbrev shown : Row
  shown = printed m.plain (row_on s ws cs)

  module _ (weigh : weighs terms ≡ true) (numbers : numbered m.first terms ≡ true) (bounds : bounded m (row_on s ws cs) ≡ true) where
    bound-is : bound_of m s terms ≡ shown.bound
    bound-is = rw (sums-are style no_sums terms weigh, bound-by-sums s.kind s.bound terms style refl m refl weigh, bounds)

    tail-line : (b : Bool) → is_goal s.kind ≡ b
        → all_of (head_pieces b) ++ (terms_text style terms ++ all_of (tail_pieces b s.kind shown.bound)) ≡ row_text m.first shown
    unfolding joined
    tail-line true k =
        ap (λ (l : List ℕ). min_text ++ (terms_text style terms ++ (closed ++ l))) (offset-all shown.bound)
        ∙ sym (objective-text s.kind s.bound terms style refl refl k)
    tail-line false k =
        ap (λ (l : List ℕ). terms_text style terms ++ l) (comparison-all (operator_text s.kind) shown.bound)
        ∙ sym (constraint-text s.kind s.bound terms style refl refl k)

    row_line : all_of (row_pieces m s terms) ≡ row_text m.first shown
    unfolding row_pieces
    row_line =
        let b = is_goal s.kind in
        all_append (head_pieces b) (terms_pieces style terms ++ tail_pieces b s.kind (bound_of m s terms))
        ∙ rw (all_append (terms_pieces style terms) (tail_pieces b s.kind (bound_of m s terms)))
        (rw (terms-all style terms weigh numbers, bound-is) (tail-line b refl))

    pub row-puts : (at : ℕ) (o : List ℕ) {r : ℕ} {o' : List ℕ} → LandsEach (row_pieces m s terms) at o r o'
        → at + length (row_text m.first shown) ≤ length o
        → Puts (row_text m.first shown) at o r o'
    row-puts at o l h = puts-as (each_puts (row_pieces m s terms) at o l (omega (arith, ap length row_line))) row_line
