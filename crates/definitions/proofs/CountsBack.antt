-- How many lines and terms come back of items that are written? Of each item a line, one more for each offset, and the
-- terms as many as they are.
use Prim.Native.Nat.{ℕ, ◌+◌}
use mathlib.Core.Path.{◌≡◌, refl, ap, ◌∙◌}
use mathlib.Core.Bool.{Bool, true, false, cond}
use mathlib.Core.List.{List, [], ◌∷◌, ◌++◌}
use native.Mathlib.Omega.{arith}
use lib.ListN.{length, length-append, length-map}
use lib.IntN.{ℤ, pos}
use Rattle.definitions.specs.Lists.{joined, total}
use Rattle.definitions.specs.Row.{Term, Kind, at_least, at_most, equal, objective, Row, row_of, Line, comment, row, terms_of}
use Rattle.definitions.specs.Table.{all_terms}
use Rattle.definitions.specs.Write.{flip_term, flipped, plain_term, unnegated, printed, is_zero, Item, say, line, item_text}
use Rattle.definitions.specs.Back.{without_cr, offset_line, lines_back, terms_back}
use Rattle.definitions.specs.declared.Mode.{Mode}
use Rattle.definitions.proofs.Columns.{joined-append}
use Rattle.definitions.proofs.KnownTexts.{found_from}
use Rattle.definitions.proofs.ItemsBack.{goal_text, offset_said, remark_line, lines_by, row_lines, item_lines, lines_from}

-- a row, and a line behind it or none
row-and : (r : Row) (l : Line) (n : Bool) → length (row r ∷ cond n [] (l ∷ [])) ≡ 1 + cond n 0 1
row-and r l true = refl
row-and r l false = refl

terms-and : (r : Row) (f n : ℕ) (b : ℤ) (c : Bool) → length (all_terms (row r ∷ cond c [] (comment f n b ∷ []))) ≡ length r.terms
unfolding joined
terms-and r f n b true = omega (arith, length-append r.terms [])
terms-and r f n b false = omega (arith, length-append r.terms ([] ++ []), length-append {A = Term} [] [])

one-row : (r : Row) → length (all_terms (row r ∷ [])) ≡ length r.terms
unfolding joined
one-row r = omega (arith, length-append r.terms [])

-- a printed row has as many terms as the row
flipped-terms : (r : Row) → length (flipped r).terms ≡ length r.terms
unfolding flipped
flipped-terms r = by r.kind
  where
    by : (k : Kind) → length (flipped (row_of k r.bound r.terms)).terms ≡ length r.terms
    by at_least = refl
    by at_most = length-map r.terms flip_term
    by equal = refl
    by objective = refl

pub printed-terms : (p : Bool) (r : Row) → length (printed p r).terms ≡ length r.terms
unfolding printed unnegated
printed-terms true r = length-map (flipped r).terms plain_term ∙ flipped-terms r
printed-terms false r = flipped-terms r

module _ (first at : ℕ) where
  goal-count : (b : ℤ) (ts : List Term) → length (lines_by objective first at b ts) ≡ 1 + offset_line objective b
  goal-count b ts = row-and (row_of objective (pos 0) ts) (remark_line (at + length (goal_text first ts)) (offset_said b)) (is_zero b)

  goal-terms : (b : ℤ) (ts : List Term) → length (all_terms (lines_by objective first at b ts)) ≡ length ts
  goal-terms b ts =
      terms-and (row_of objective (pos 0) ts) (at + length (goal_text first ts) + 2) (length (without_cr (offset_said b))) (pos 0) (is_zero b)

  row_count : (p : Bool) (r : Row) → length (row_lines first at (printed p r)) ≡ 1 + offset_line r.kind (printed p r).bound
  unfolding printed flipped unnegated
  row_count p r = by p r.kind
    where
      by : (p : Bool) (k : Kind)
          → length (row_lines first at (printed p (row_of k r.bound r.terms)))
          ≡ 1 + offset_line k (printed p (row_of k r.bound r.terms)).bound
      by true at_least = refl
      by true at_most = refl
      by true equal = refl
      by true objective = let q = printed true (row_of objective r.bound r.terms) in goal-count q.bound q.terms
      by false at_least = refl
      by false at_most = refl
      by false equal = refl
      by false objective = goal-count r.bound r.terms

  row-terms : (r : Row) → length (all_terms (row_lines first at r)) ≡ length r.terms
  row-terms r = by r.kind
    where
      by : (k : Kind) → length (all_terms (row_lines first at (row_of k r.bound r.terms))) ≡ length r.terms
      by at_least = one-row (row_of at_least r.bound r.terms)
      by at_most = one-row (row_of at_most r.bound r.terms)
      by equal = one-row (row_of equal r.bound r.terms)
      by objective = goal-terms r.bound r.terms

module _ (m : Mode) where
  item_count : (at : ℕ) (i : Item) → length (item_lines m at i) ≡ lines_back m i
  item_count at (say t) = refl
  item_count at (line r) = row_count m.first at m.plain r

  item-terms : (at : ℕ) (i : Item) → length (all_terms (item_lines m at i)) ≡ terms_back i
  unfolding joined
  item-terms at (say t) = refl
  item-terms at (line r) = row-terms m.first at (printed m.plain r) ∙ printed-terms m.plain r

  pub lines-back : (at : ℕ) (is : List Item) → length (lines_from m at is) ≡ total (lines_back m) is
  unfolding found_from total
  lines-back at [] = refl
  lines-back at (i ∷ is) =
      let n = at + length (item_text m i) in
      omega (arith, length-append (item_lines m at i) (lines_from m n is), item_count at i, lines-back n is)

  joined-terms : (ls ks : List Line) → length (all_terms (ls ++ ks)) ≡ length (all_terms ls) + length (all_terms ks)
  joined-terms ls ks = ap length (joined-append terms_of ls ks) ∙ length-append (all_terms ls) (all_terms ks)

  pub terms-back : (at : ℕ) (is : List Item) → length (all_terms (lines_from m at is)) ≡ total terms_back is
  unfolding found_from total joined
  terms-back at [] = refl
  terms-back at (i ∷ is) =
      let n = at + length (item_text m i) in
      omega (arith, joined-terms (item_lines m at i) (lines_from m n is), item-terms at i, terms-back n is)
