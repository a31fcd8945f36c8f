-- Laws of the fields of a term: the text of a literal, the lengths, and what is said of a length. Lengths are added up
-- to the limit of a needed number.
use Rattle.std.specs.Prelude.{Option, Some, None}
use mathlib.Core.Path.{◌≡◌, refl, sym, ap, ◌∙◌}
use mathlib.Core.Bool.{Bool, true, false, cond}
use mathlib.Core.List.{List, ◌∷◌, ◌++◌}
use Prim.Native.Nat.{ℕ, ◌+◌}
use native.Mathlib.Omega.{arith}
use lib.IntN.{ℤ}
use lib.ListN.{length, length-append}
use Rattle.definitions.specs.Refusal.{needed, refuse, accept}
use Rattle.definitions.specs.Number.{decimal, integer_text}
use Rattle.definitions.specs.Literal.{index_of, negated, file_number}
use Rattle.definitions.specs.Row.{term}
use Rattle.definitions.specs.Write.{number_text, literal_text, is_accepted}
use Rattle.definitions.specs.House.{field, term_fields}
use Rattle.laws.proofs.Puts.{needed-add, needed-both}
use Rattle.definitions.proofs.Truths.{never}
use Rattle.house_lengths.specs.Words.{literal_words, term_words}
use Rattle.house_lengths.specs.Lengths.{said_term_length, term_length}

-- ---- one term

-- a tab before each of the two fields
pub term-fields-length : (first : ℕ) (w : ℤ) (c : ℕ)
    → length (term_fields first (term w c)) ≡ length (integer_text w) + length (literal_text first c) + 2
unfolding term_fields
term-fields-length first w c = omega (arith, length-append (field (integer_text w)) (field (literal_text first c)))

module _ (w : ℤ) (b : Bool) (n : ℕ) where
  pub words-length : length (term_words w b n) ≡ length (integer_text w) + length (literal_words b n) + 2
  words-length = omega (arith, length-append (field (integer_text w)) (field (literal_words b n)))

  pub tilde-words-length : b ≡ true → length (term_words w b n) ≡ length (integer_text w) + length (decimal n) + 4
  tilde-words-length e = omega (arith, words-length, ap (λ (x : Bool). length (literal_words x n)) e)

  pub plain-words-length : b ≡ false → length (term_words w b n) ≡ length (integer_text w) + length (decimal n) + 3
  plain-words-length e = omega (arith, words-length, ap (λ (x : Bool). length (literal_words x n)) e)

-- a term by its literal's file number
module _ (first : ℕ) (w : ℤ) (c : ℕ) where
  pub term_words_lem : (n : ℕ) → n ≡ index_of c + first → term_words w (negated c) n ≡ term_fields first (term w c)
  unfolding term_fields literal_text number_text
  term_words_lem n e = ap (λ (s : List ℕ). field (integer_text w) ++ field s) (by (negated c))
    where
      by : (b : Bool) → literal_words b n ≡ cond b (126 ∷ 120 ∷ decimal (index_of c + first)) (120 ∷ decimal (index_of c + first))
      by true = rw e
      by false = rw e

  pub length-numbered : (n k : ℕ) → n ≡ index_of c + first → is_accepted (file_number first (index_of c)) ≡ true
      → k ≡ length (term_words w (negated c) n) → accept k ≡ term_length first (term w c)
  length-numbered n k e a l = rw a (ap accept (l ∙ ap length (term_words_lem n e)))

  pub length-unnumbered : is_accepted (file_number first (index_of c)) ≡ false → refuse 5 ≡ term_length first (term w c)
  length-unnumbered a = rw a

-- ---- lengths up to the limit of a needed number

module _ {A : Type 0} (s t : List A) {n m r : ℕ} (a : n ≡ needed (length s)) where
  -- one part more, and one more that was itself counted up to the limit
  pub needed-more : m ≡ length t → r ≡ needed (n + m) → r ≡ needed (length (s ++ t))
  needed-more b e = e ∙ rw (a, b, needed-add, length-append s t)

  pub needed-more-yet : m ≡ needed (length t) → r ≡ needed (n + m) → r ≡ needed (length (s ++ t))
  needed-more-yet b e = e ∙ rw (a, b, needed-both, length-append s t)

-- what is said of one term
module _ (first : ℕ) (w : ℤ) (c : ℕ) (r : Option ℕ) (e : said_term_length r ≡ term_length first (term w c)) where
  pub counted_is : (n : ℕ) → r ≡ Some n
      → (is_accepted (file_number first (index_of c)) ≡ true) × (n ≡ length (term_fields first (term w c)))
  counted_is n q = by (is_accepted (file_number first (index_of c))) (sym (ap said_term_length q) ∙ e)
    where
      by : (b : Bool) → accept n ≡ cond b (accept (length (term_fields first (term w c)))) (refuse 5)
          → (b ≡ true) × (n ≡ length (term_fields first (term w c)))
      by true p = (refl, cc)
      by false p = never (cc)

  pub counted_none : r ≡ None → is_accepted (file_number first (index_of c)) ≡ false
  counted_none q = by (is_accepted (file_number first (index_of c))) (sym (ap said_term_length q) ∙ e)
    where
      by : (b : Bool) → refuse 5 ≡ cond b (accept (length (term_fields first (term w c)))) (refuse 5) → b ≡ false
      by true p = never (cc)
      by false p = refl
