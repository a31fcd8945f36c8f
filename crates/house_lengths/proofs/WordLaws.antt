-- Laws of the words of a line: the word of a kind, and a line, the head and the whole text in the pieces that the code
-- puts one behind the other.
use mathlib.Core.Path.{◌≡◌, refl, sym, ap}
use mathlib.Core.List.{List, [], ◌∷◌, ◌++◌, append_assoc}
use Prim.Native.Nat.{ℕ, zero, suc, ◌+◌, ◌≤◌}
use native.Mathlib.Omega.{arith}
use lib.IntN.{ℤ}
use lib.ListN.{length, length-append}
use Rattle.definitions.specs.Lists.{joined}
use Rattle.definitions.specs.Bytes.{tab, lf}
use Rattle.definitions.specs.Number.{decimal, integer_text}
use Rattle.definitions.specs.Row.{Term, Line, comment, row, row_of}
use Rattle.definitions.specs.declared.Kind.{Kind}
use Rattle.definitions.specs.declared.Kind.TheVariants.{AtLeast as at_least, AtMost as at_most, Equal as equal, Objective as objective}
use Rattle.definitions.specs.Table.{accepted, all_terms}
use Rattle.definitions.specs.House.{field, kind_word, term_fields, house_line, head_line, listing}
use Rattle.columns.specs.Kinds.{read_kind}
use Rattle.house_lengths.specs.Words.{word_field, comment_line, head_text}
use Rattle.columns.proofs.KindNumbers.{kind-objective}

-- ---- the word of a kind

pub word_two : (k : ℕ) → 1 ≤ k → k ≤ 3 → 2 ≡ length (kind_word (read_kind k))
unfolding read_kind
word_two zero h g = absurd (omega arith)
word_two (suc zero) h g = refl
word_two (suc (suc zero)) h g = refl
word_two (suc (suc (suc zero))) h g = refl
word_two (suc (suc (suc (suc k)))) h g = absurd (omega arith)

pub word-three : (k : ℕ) → (k ≡ 1 → ⊥) → (k ≡ 2 → ⊥) → (k ≡ 3 → ⊥) → 3 ≡ length (kind_word (read_kind k))
word-three k a b c = rw (kind-objective k a b c)

pub word-most : (k : Kind) → length (kind_word k) ≤ 3
word-most at_least = omega arith
word-most at_most = omega arith
word-most equal = omega arith
word-most objective = omega arith

-- ---- a line

pub comment-words : (first f n : ℕ) (b : ℤ) → house_line first (comment f n b) ≡ comment_line n
unfolding house_line
comment-words first f n b = refl

pub comment-length : (n : ℕ) → length (comment_line n) ≡ length (decimal n) + 3
comment-length n = omega (arith, length-append (field (decimal n)) (lf ∷ []))

module _ (first : ℕ) (k : Kind) (b : ℤ) (ts : List Term) where
  pub line-words : house_line first (row (row_of k b ts)) ≡ word_field k ++ (integer_text b ++ (joined (term_fields first) ts ++ (lf ∷ [])))
  unfolding house_line
  line-words = sym (append_assoc (kind_word k) (tab ∷ []) (integer_text b ++ (joined (term_fields first) ts ++ (lf ∷ []))))

  pub line-length : length (house_line first (row (row_of k b ts))) ≡ length (joined (term_fields first) ts) +
      (length (word_field k) + (length (integer_text b) + 1))
  line-length =
      let t = joined (term_fields first) ts in
      omega (
        arith,
        ap length line-words,
        length-append (word_field k) (integer_text b ++ (t ++ (lf ∷ []))),
        length-append
            (integer_text b) (t ++ (lf ∷ [])),
        length-append t (lf ∷ []),
      )

-- ---- the head, and the whole text

pub head-length : (rows terms first : ℕ)
    → length (head_text rows terms first) ≡ length (decimal rows) + length (decimal terms) + length (decimal first) + 7
head-length rows terms first =
    let f = field (decimal first) ++ (lf ∷ []) in
    let t = field (decimal terms) ++ f in
    omega (
      arith,
      length-append (field (decimal rows)) t,
      length-append (field (decimal terms)) f,
      length-append
          (field (decimal first)) (lf ∷ []),
    )

module _ (first : ℕ) (ls : List Line) where
  abbrev pub text : List ℕ
  text = head_text (length ls) (length (all_terms ls)) first ++ joined (house_line first) ls

  pub is-listing : listing first (accepted ls) ≡ text
  unfolding listing head_line
  is-listing = refl

  pub text-length : length text ≡ length (head_text (length ls) (length (all_terms ls)) first) + length (joined (house_line first) ls)
  text-length = length-append (head_text (length ls) (length (all_terms ls)) first) (joined (house_line first) ls)
