-- Are the document's integers, terms and sums read as it means them?
use Prim.Native.Nat.{ℕ, zero, suc, ◌+◌, ◌-◌, ◌*◌, ◌/◌, ◌%◌, ◌≤◌, ◌<◌}
use mathlib.Core.Path.{◌≡◌, refl, sym, ap, ap₂, ◌∙◌}
use mathlib.Core.Bool.{Bool, true, false, cond}
use mathlib.Core.List.{List, [], ◌∷◌, ◌++◌, map, append_assoc}
use native.Mathlib.Omega.{arith}
use native.Mathlib.Nat.{zero-add}
use native.Mathlib.Numerals.{one-add}
use borrow.Author.Tests.{le-leb}
use lib.ListN.{length}
use lib.IntN.{ℤ, pos, nat_abs, ◌+ℤ◌, ◌*ℤ◌, *ℤ-zero}
use Rattle.definitions.specs.Lists.{joined, AllOf}
use Rattle.definitions.specs.Limits.{index_limit, file_number_limit, weight_limit, in_i64}
use Rattle.definitions.specs.Refusal.{accept}
use Rattle.definitions.specs.Bytes.{blanks, minus, plus, space}
use Rattle.definitions.specs.Number.{leading, value_on, value, number}
use Rattle.definitions.specs.Literal.{index}
use Rattle.definitions.specs.Row.{Term, term, sizes}
use Rattle.definitions.specs.Text.{gap1, weighted, begins_term, sum}
use Rattle.definitions.specs.Meaning.{is_true, sum_of}
use Rattle.document.specs.Document as D
use Rattle.document.specs.DocumentRead.{from_one, weights_of, IndexWithin, by_index}
use Rattle.definitions.proofs.Whole.{up-mul, dn-mul, same, abs_is, is-in, in-true}
use Rattle.definitions.proofs.Numbers.{leading-digit, number-minus, number-plus, number-unsigned, ended-got}
use Rattle.definitions.proofs.Readback.{Reads, digit-begins, reads-gap, reads-gap1, reads_plain, reads-weighted}
use Rattle.definitions.proofs.RowsBack.{reads-terms}

-- ---- spaces

pub spaces-blanks : (n : ℕ) (rest : List ℕ) → blanks rest ≡ 0 → blanks (D.spaces n ++ rest) ≡ length (D.spaces n)
unfolding D.spaces blanks
spaces-blanks zero rest e = e
spaces-blanks (suc n) rest e = ap suc (spaces-blanks n rest e)

spaces-leading : (n : ℕ) (rest : List ℕ) → leading (D.spaces (suc n) ++ rest) ≡ []
unfolding D.spaces leading
spaces-leading n rest = refl

-- ---- digits

abbrev pub digit_bytes : List ℕ → List ℕ
digit_bytes ds = map D.digit_text ds

digits_value_lem : (n : ℕ) (ds : List ℕ) → value_on n (digit_bytes ds) ≡ D.digits_value n ds
unfolding value_on D.digits_value
digits_value_lem n [] = refl
digits_value_lem n (d ∷ ds) =
    let e : n * 10 + (48 + d - 48) ≡ n * 10 + d = omega arith in
    ap (λ (k : ℕ). value_on k (digit_bytes ds)) e ∙ digits_value_lem (n * 10 + d) ds

pub digits-leading : (ds rest : List ℕ) → AllOf D.IsDigit ds → leading rest ≡ [] → leading (digit_bytes ds ++ rest) ≡ digit_bytes ds
digits-leading [] rest g e = e
digits-leading (d ∷ ds) rest g e =
    leading-digit (48 + d) (digit_bytes ds ++ rest) (omega arith) (omega (arith, g.0))
    ∙ ap (λ (l : List ℕ). (48 + d) ∷ l) (digits-leading ds rest g.1 e)

-- ---- integers

module _ (z : D.Integer) (rest : List ℕ) (g : D.GoodInteger z) where
  abbrev ds : List ℕ
  ds = z.first ∷ z.others

  digit-front : (rest : List ℕ) → 0 < length (leading (digit_bytes ds ++ rest))
  digit-front rest =
      rw (leading-digit (48 + z.first) (digit_bytes z.others ++ rest) (omega arith) (omega (arith, g.digits.0))) (omega arith)

  pub integer-begins : begins_term (D.integer_text z ++ rest) ≡ true
  unfolding D.integer_text begins_term
  integer-begins = by z.sign
    where
      by : (s : D.Sign) → begins_term ((D.sign_text s ++ digit_bytes ds) ++ rest) ≡ true
      by D.unsigned = digit-begins (digit_bytes ds ++ rest) (digit-front rest)
      by D.plus = refl
      by D.minus = refl

  pub reads-integer : in_i64 (D.integer_value z) ≡ true → leading rest ≡ [] → Reads number (D.integer_text z) rest (D.integer_value z)
  unfolding D.integer_text D.integer_value
  reads-integer f e = by z.sign f
    where
      front : leading (digit_bytes ds ++ rest) ≡ digit_bytes ds
      front = digits-leading ds rest g.digits e

      worth : value (digit_bytes ds) ≡ D.digits_value 0 ds
      worth = digits_value_lem 0 ds

      by : (s : D.Sign) → in_i64 (D.signed_by s (D.digits_value 0 ds)) ≡ true
          → Reads number (D.sign_text s ++ digit_bytes ds) rest (D.signed_by s (D.digits_value 0 ds))
      by D.unsigned f = record {
        reads =
            number-unsigned (digit_bytes ds ++ rest) (omega arith) (λ q. omega arith) (λ q. omega arith)
            ∙ rw front (ended-got false 0 (digit_bytes ds) (λ q. omega arith) (rw worth f) ∙ rw (worth, zero-add));
      }
      by D.plus f = record {
        reads =
            number-plus (plus ∷ (digit_bytes ds ++ rest)) (omega arith) refl
            ∙ rw front (ended-got false 1 (digit_bytes ds) (λ q. omega arith) (rw worth f) ∙ rw (worth, one-add));
      }
      by D.minus f = record {
        reads =
            number-minus (minus ∷ (digit_bytes ds ++ rest)) (omega arith) refl
            ∙ rw front (ended-got true 1 (digit_bytes ds) (λ q. omega arith) (rw worth f) ∙ rw (worth, one-add));
      }

-- ---- terms and sums

-- the term that the document's term is: its variable, plain, by index
abbrev pub term_for : D.WeightedTerm → Term
term_for t = term (D.integer_value t.weight) (2 * (D.variable_of t - 1))

-- what is asked of a term, with a weight of 64 bits
pub record Readable (most : ℕ) (t : D.WeightedTerm) : Type 0 where
  pub good : D.GoodTerm most t
  pub weight : in_i64 (D.integer_value t.weight) ≡ true
  pub index : IndexWithin t

module _ (most : ℕ) (t : D.WeightedTerm) (g : Readable most t) where
  term-begins : (rest : List ℕ) → begins_term (D.term_text t ++ rest) ≡ true
  unfolding D.term_text
  term-begins rest = rw append_assoc (integer-begins t.weight _ g.good.weight)

  has-index : index 1 (value (digit_bytes (t.first ∷ t.others))) ≡ accept (D.variable_of t - 1)
  unfolding index D.variable_of
  has-index =
      let v = D.digits_value 0 (t.first ∷ t.others) in
      let low : 1 ≤ v = g.good.low in
      let within : v - 1 ≤ index_limit = g.index in
      rw (digits_value_lem 0 (t.first ∷ t.others), le-leb v file_number_limit (omega arith), le-leb 1 v low, le-leb (v - 1) index_limit within)

  -- blanks before the variable, whatever stands behind it
  before-variable : (y rest : List ℕ) → Reads gap1 (D.spaces (suc t.gap)) ((120 ∷ y) ++ rest) (suc (length (D.spaces t.gap)))
  unfolding D.spaces blanks
  before-variable y rest = reads-gap1 space (D.spaces t.gap) ((120 ∷ y) ++ rest) (spaces-blanks (suc t.gap) ((120 ∷ y) ++ rest) refl)

  reads-term : (rest : List ℕ) → blanks rest ≡ 0 → Reads (weighted from_one) (D.term_text t) rest (term_for t)
  unfolding D.term_text
  reads-term rest e =
      let vs = t.first ∷ t.others in
      let x = D.integer_text t.weight in
      let l : List ℕ = 120 ∷ digit_bytes vs in
      let b = D.spaces (suc t.behind) in
      let no_digit : leading ((D.spaces (suc t.gap) ++ (l ++ b)) ++ rest) ≡ [] = rw append_assoc (spaces-leading t.gap _) in
      reads-weighted from_one x (D.spaces (suc t.gap)) l b (reads-integer t.weight _ g.good.weight g.weight no_digit)
      (before-variable (digit_bytes vs ++ b) rest)
      (reads_plain from_one (digit_bytes vs) (b ++ rest) (D.variable_of t - 1)
      (digits-leading vs (b ++ rest) g.good.digits (spaces-leading t.behind rest)) (omega arith) has-index)
      (reads-gap b rest (spaces-blanks (suc t.behind) rest e))

pub times-bit : (w : ℤ) (b : Bool) → cond b w (pos 0) ≡ w *ℤ D.bit b
times-bit w true = same w (w *ℤ pos 1) (omega (arith, up-mul w 1, dn-mul w 1))
times-bit w false = sym (*ℤ-zero w)

module _ (most : ℕ) where
  pub sum-begins : (t : D.WeightedTerm) (ts : List D.WeightedTerm) (y rest : List ℕ) → Readable most t
      → begins_term ((D.sum_text (t ∷ ts) ++ y) ++ rest) ≡ true
  unfolding joined
  sum-begins t ts y rest g = simp append_assoc (term-begins most t g (D.sum_text ts ++ (y ++ rest)))

  pub reads-document-sum : (ts : List D.WeightedTerm) (rest : List ℕ) → AllOf (Readable most) ts → blanks rest ≡ 0 → begins_term rest ≡ false
      → Reads (sum from_one) (D.sum_text ts) rest (map term_for ts)
  reads-document-sum ts rest g e n =
      reads-terms from_one D.term_text term_for (Readable most) (λ t s q. term-begins most t q s)
      (λ t s q h. reads-term most t q s h) ts rest g e n

  -- ---- what they mean

  pub sizes-of : (ts : List D.WeightedTerm) → sizes (map term_for ts) ≡ weights_of ts
  unfolding sizes weights_of
  sizes-of [] = refl
  sizes-of (t ∷ ts) = ap (λ (n : ℕ). nat_abs (D.integer_value t.weight) + n) (sizes-of ts)

  true-where : (b : ℕ → Bool) (t : D.WeightedTerm) → 1 ≤ D.variable_of t → is_true (by_index b) (2 * (D.variable_of t - 1)) ≡ b (D.variable_of t)
  unfolding is_true
  true-where b t h =
      let v = D.variable_of t in
      let even : 2 * (v - 1) % 2 ≡ 0 = omega arith in
      let half : 2 * (v - 1) / 2 + 1 ≡ v = omega arith in
      rw (even, half)

  pub sum-means : (b : ℕ → Bool) (ts : List D.WeightedTerm) → AllOf (Readable most) ts
      → sum_of (by_index b) (map term_for ts) ≡ D.sum_value b ts
  unfolding sum_of D.sum_value
  sum-means b [] g = refl
  sum-means b (t ∷ ts) g =
      ap₂ (λ (x y : ℤ). x +ℤ y)
      (ap (λ (c : Bool). cond c (D.integer_value t.weight) (pos 0)) (true-where b t g.0.good.low)
      ∙ times-bit (D.integer_value t.weight) (b (D.variable_of t)))
      (sum-means b ts g.1)

  -- a sum within its limits has weights of 64 bits
  pub readable-sum : (ts : List D.WeightedTerm) → AllOf (D.GoodTerm most) ts → AllOf IndexWithin ts → weights_of ts ≤ weight_limit
      → AllOf (Readable most) ts
  unfolding weights_of
  readable-sum [] g i h = tt
  readable-sum (t ∷ ts) g i h =
      let w = D.integer_value t.weight in (
        record { good = g.0; weight = in-true w (is-in w (omega (arith, abs_is w)) (omega (arith, abs_is w))); index = i.0 },
        readable-sum ts g.1 i.1 (omega arith),
      )
