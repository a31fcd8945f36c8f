-- Laws of `min:` and of comments, by what the code looks at: a byte at a place, blanks and a line ending counted.
use Prim.Native.Nat.{ℕ, suc, ◌+◌, ◌-◌, ◌≤◌, ◌<◌}
use mathlib.Core.Path.{◌≡◌, refl, sym, ap, ◌∙◌}
use mathlib.Core.Bool.{Bool, true, false, cond, ◌&&◌}
use mathlib.Core.List.{List, [], ◌∷◌}
use native.Mathlib.Omega.{arith}
use native.Mathlib.Nat.{sub-zero}
use native.Mathlib.Numerals.{add-one}
use borrow.Author.Tests.{eq-eqb, ne_eqb, eqb-true}
use lib.Dec.{eqb}
use lib.ListN.{length, get_or, take, drop, length-drop}
use lib.Pointwise.{pointwise}
use lib.IntN.{pos}
use Rattle.definitions.specs.Refusal.{fault}
use Rattle.definitions.specs.Lists.{starts_with}
use Rattle.definitions.specs.Bytes.{is_at, blanks, line_ending, until_ending, space, min_text}
use Rattle.definitions.specs.Reader.{none, got}
use Rattle.definitions.specs.Row.{comment}
use Rattle.definitions.specs.Text.{gap, min_word, min_blanks, remark}
use Rattle.definitions.proofs.Chains.{chain-none, chain-got}
use Rattle.definitions.proofs.Texts.{until-within, ending-within}
use Rattle.blanks.proofs.At.{at-is}

-- ---- a word at the front

stripped : (w s : List ℕ) → pointwise eqb (take (length w) s) w ≡ starts_with w s
unfolding starts_with
stripped [] s = refl
stripped (p ∷ w) [] = refl
stripped (p ∷ w) (b ∷ s) = ap (λ t. eqb b p && t) (stripped w s)

-- ---- `min:`, blanks

module _ (s : List ℕ) where
  pub min-none : pointwise eqb (take 4 s) min_text ≡ false → min_blanks s ≡ none (fault 2)
  unfolding min_blanks min_word
  min-none e = chain-none min_word (λ _. gap) s (fault 2) (rw (sym (stripped min_text s) ∙ e))

  pub min-got : pointwise eqb (take 4 s) min_text ≡ true → (k : ℕ) → k ≡ blanks (drop 4 s) → min_blanks s ≡ got k (4 + k)
  unfolding min_blanks min_word gap
  min-got e k f = chain-got min_word (λ _. gap) s 0 4 (rw (sym (stripped min_text s) ∙ e)) ∙ rw (← f)

-- ---- comments

pub remark-empty : (s : List ℕ) → length s ≡ 0 → remark s ≡ none (fault 2)
unfolding remark
remark-empty [] e = refl
remark-empty (b ∷ s) e = absurd (omega arith)

-- n bytes up to the line ending, and m of that; t says whether a space stands behind the `*`
remark-by : (s : List ℕ) (n m : ℕ) (t : Bool) → 0 < length s → n ≡ until_ending (drop 1 s)
    → m ≡ line_ending (drop (n + 1) s) → is_at space (drop 1 s) ≡ t
    → remark s ≡ got (comment (1 + cond t 1 0) (n - cond t 1 0) (pos 0)) (n + 1 + m)
unfolding remark
remark-by [] n m t h e f g = absurd (omega arith)
remark-by (b ∷ s) n m t h e f g =
    let l : m ≡ line_ending (drop n s) = rw add-one at f in
    rw (← e, ← l, g) (ap (got (comment (1 + cond t 1 0) (n - cond t 1 0) (pos 0))) (omega arith))

-- where a line ending or the end stands at the front, no space does
no-space : (s : List ℕ) → until_ending s ≡ 0 → is_at space s ≡ false
unfolding until_ending line_ending is_at
no-space [] e = refl
no-space (b ∷ s) e = by (eqb b space) refl
  where
    by : (t : Bool) → eqb b space ≡ t → eqb b space ≡ false
    by true q = let z : suc (until_ending s) ≡ 0 = rw (eqb-true b space q) at e in absurd (omega arith)
    by false q = q

module _ (s : List ℕ) (n : ℕ) (h : 0 < length s) (e : n ≡ until_ending (drop 1 s)) where
  pub comment-text-within : n + 1 ≤ length s
  comment-text-within = omega (arith, until-within (drop 1 s), length-drop 1 s)

  module _ (m : ℕ) (f : m ≡ line_ending (drop (n + 1) s)) where
    pub comment-within : n + 1 + m ≤ length s
    comment-within = omega (arith, comment-text-within, ending-within (drop (n + 1) s), length-drop (n + 1) s)

    pub remark-spaced : 0 < n → get_or s 1 0 ≡ space → remark s ≡ got (comment 2 (n - 1) (pos 0)) (n + 1 + m)
    remark-spaced l g = remark-by s n m true h e f (at-is space 1 s (omega (arith, comment-text-within)) ∙ eq-eqb (get_or s 1 0) space g)

    pub remark-plain : 0 < n → (get_or s 1 0 ≡ space → ⊥) → remark s ≡ got (comment 1 n (pos 0)) (n + 1 + m)
    remark-plain l g =
        remark-by s n m false h e f (at-is space 1 s (omega (arith, comment-text-within)) ∙ ne_eqb (get_or s 1 0) space g) ∙ rw sub-zero

    -- no byte before the line ending, so no space
    pub remark-bare : n ≡ 0 → remark s ≡ got (comment 1 n (pos 0)) (n + 1 + m)
    remark-bare z = remark-by s n m false h e f (no-space (drop 1 s) (sym e ∙ z)) ∙ rw sub-zero
