-- Laws on file numbers, indexes and codes: when each is there and when 5 is given, and how the conversions of
-- src/lib.rt fit together.
use Prim.Native.Nat.{ℕ, ◌+◌, ◌-◌, ◌≤◌, ◌<◌}
use mathlib.Core.Path.{◌≡◌, sym, ap, ◌∙◌}
use mathlib.Core.Bool.{Bool, and-false}
use native.Mathlib.Omega.{arith}
use native.Mathlib.Decide.{dec_le}
use borrow.Author.Tests.{le-leb, lt-leb}
use Rattle.definitions.specs.Limits.{file_number_limit, index_limit}
use Rattle.definitions.specs.Literal.{code_of, index, file_number, code_for}
use Rattle.definitions.specs.Refusal.{refuse, accept}
use Rattle.literals.specs.FileDigits.{file_number_of, then_index}

-- ---- answers
pub accepted : (m n : ℕ) → accept m ≡ accept n → m ≡ n
accepted m n e = cc

pub no-refusal : (n k : ℕ) → accept n ≡ refuse k → ⊥
no-refusal n k e = let z : ◌≡◌ {A = ℕ} 0 1 = cc in omega arith

-- ---- when a file number has an index, and an index a code
module _ (first n : ℕ) where
  pub index-below-first : n < first → refuse 5 ≡ index first n
  unfolding index
  index-below-first h = rw (lt-leb first n h) (simp and-false)

  pub index-above-limit : index_limit < n - first → refuse 5 ≡ index first n
  unfolding index
  index-above-limit h = rw (lt-leb (n - first) index_limit h) (simp and-false)

  pub index-beyond : file_number_limit < n → refuse 5 ≡ index first n
  unfolding index
  index-beyond h = rw (lt-leb n file_number_limit h)

  pub index-within : n ≤ file_number_limit → first ≤ n → n - first ≤ index_limit → accept (n - first) ≡ index first n
  unfolding index
  index-within g h k = rw (le-leb n file_number_limit g, le-leb first n h, le-leb (n - first) index_limit k)

module _ (negative : Bool) (v : ℕ) where
  pub literal-above-limit : index_limit < v → refuse 5 ≡ code_for negative v
  unfolding code_for
  literal-above-limit h = rw (lt-leb v index_limit h)

  pub literal-within : v ≤ index_limit → accept (code_of negative v) ≡ code_for negative v
  unfolding code_for
  literal-within h = rw (le-leb v index_limit h)

-- ---- `of_digits`, then `of_file`
pub digits-then-file : (first size : ℕ) → then_index first (file_number_of size) ≡ index first size
unfolding file_number_of
digits-then-file first size = cases (dec_le size file_number_limit)
  where
    cases : Dec (size ≤ file_number_limit) → then_index first (file_number_of size) ≡ index first size
    cases (yes h) = rw (le-leb size file_number_limit h)
    cases (no h) = rw (lt-leb size file_number_limit (omega arith)) (index-beyond first size (omega arith))

module _ (first size : ℕ) where
  pub index-of-digits : (n : ℕ) → accept n ≡ file_number_of size → index first n ≡ index first size
  index-of-digits n e = ap (then_index first) e ∙ digits-then-file first size

  pub index-of-digits-refused : refuse 5 ≡ file_number_of size → refuse 5 ≡ index first size
  index-of-digits-refused e = ap (then_index first) e ∙ digits-then-file first size

-- ---- `of_file`, then `lit`: a variable that was read has both literals
module _ (first n v : ℕ) (e : accept v ≡ index first n) where
  pub index-limited : v ≤ index_limit
  index-limited = cases (dec_le n file_number_limit) (dec_le first n) (dec_le (n - first) index_limit)
    where
      refused : refuse 5 ≡ index first n → v ≤ index_limit
      refused f = absurd (no-refusal v 5 (e ∙ sym f))

      cases : Dec (n ≤ file_number_limit) → Dec (first ≤ n) → Dec (n - first ≤ index_limit) → v ≤ index_limit
      cases (no h) _ _ = refused (index-beyond first n (omega arith))
      cases (yes g) (no h) _ = refused (index-below-first first n (omega arith))
      cases (yes g) (yes h) (no k) = refused (index-above-limit first n (omega arith))
      cases (yes g) (yes h) (yes k) = omega (arith, accepted v (n - first) (e ∙ sym (index-within first n g h k)))

  pub literal-of-index : (negative : Bool) → accept (code_of negative v) ≡ code_for negative v
  literal-of-index negative = literal-within negative v index-limited

-- ---- `FileNumber::of`, then `of_file`: what is written is read as the same variable
pub index-of-file-number : (first v n : ℕ) → v ≤ index_limit → accept n ≡ file_number first v → accept v ≡ index first n
unfolding file_number
index-of-file-number first v n h e = cases (dec_le (v + first) file_number_limit)
  where
    cases : Dec (v + first ≤ file_number_limit) → accept v ≡ index first n
    cases (no g) = absurd (no-refusal n 5 (rw (lt-leb (v + first) file_number_limit (omega arith)) at e))
    cases (yes g) =
        let q : n ≡ v + first = accepted n (v + first) (rw (le-leb (v + first) file_number_limit g) at e) in
        let d : v ≡ n - first = omega arith in
        ap accept d ∙ index-within first n (omega arith) (omega arith) (omega arith)
