-- Are numbers, terms and sums, as they are written from first index 1 in no-negated mode, texts of the document? Each
-- is the text of a tree with the same value.
use Prim.Native.Nat.{ℕ, suc, ◌+◌, ◌*◌, ◌/◌, ◌%◌, ◌≤◌, ◌<◌}
use mathlib.Core.Path.{◌≡◌, refl, sym, ap, ap₂, ◌∙◌}
use mathlib.Core.Bool.{Bool, false, cond}
use mathlib.Core.List.{List, [], ◌∷◌, ◌++◌, map, append_assoc, map-append}
use native.Mathlib.Omega.{arith}
use lib.IntN.{ℤ, pos, negsuc, neg_ℤ, ◌+ℤ◌, ◌*ℤ◌}
use Rattle.definitions.specs.Lists.{joined, AllOf}
use Rattle.definitions.specs.Bytes.{space}
use Rattle.definitions.specs.Number.{decimal, integer_text}
use Rattle.definitions.specs.Literal.{index_of, negated}
use Rattle.definitions.specs.Row.{Term}
use Rattle.definitions.specs.Meaning.{is_true, sum_of}
use Rattle.definitions.specs.Write.{number_text, literal_text, term_text, spaced}
use Rattle.document.specs.Document as D
use Rattle.document.specs.DocumentRead.{by_index}
use Rattle.definitions.proofs.Each.{both-parts}
use Rattle.definitions.proofs.Numbers.{decimal-ind, decimal-small, decimal-big}
use Rattle.document.proofs.DocumentTerms.{digit_bytes, times-bit}

-- ---- digits

-- the digits of a number, as the document has them
pub record Digits (n : ℕ) : Type 0 where
  pub first : ℕ
  pub others : List ℕ
  pub text : digit_bytes (first ∷ others) ≡ decimal n
  pub each : AllOf D.IsDigit (first ∷ others)
  pub worth : D.digits_value 0 (first ∷ others) ≡ n

value-of-one-more : (a : ℕ) (ds : List ℕ) (d : ℕ) → D.digits_value a (ds ++ (d ∷ [])) ≡ D.digits_value a ds * 10 + d
unfolding D.digits_value
value-of-one-more a [] d = refl
value-of-one-more a (x ∷ ds) d = value-of-one-more (a * 10 + x) ds d

one-digit : (n : ℕ) → n < 10 → Digits n
unfolding D.digits_value
one-digit n h = record { first = n; others = []; text = sym (decimal-small n h); each = (h, tt); worth = omega arith }

-- the digits of n / 10, and one more
more-digits : (n : ℕ) → 10 ≤ n → Digits (n / 10) → Digits n
more-digits n h q =
    let ds = q.first ∷ q.others in
    let d = n % 10 in
    let one : AllOf D.IsDigit (d ∷ []) = (omega arith, tt) in
    record {
      first = q.first;
      others = q.others ++ (d ∷ []);
      text = map-append D.digit_text ds (d ∷ []) ∙ ap (λ (l : List ℕ). l ++ (D.digit_text d ∷ [])) q.text ∙ sym (decimal-big n h);
      each = both-parts D.IsDigit ds (d ∷ []) q.each one;
      worth = value-of-one-more 0 ds d ∙ rw q.worth (omega arith);
    }

pub digits_of_lem : (n : ℕ) → Digits n
digits_of_lem = decimal-ind Digits one-digit more-digits

-- ---- integers

pub unsigned_for : ℕ → D.Integer
unsigned_for n = let q = digits_of_lem n in record { sign = D.unsigned; first = q.first; others = q.others }

-- "with no sign but `-`"
pub integer_for : ℤ → D.Integer
integer_for (pos n) = unsigned_for n
integer_for (negsuc n) = let q = digits_of_lem (suc n) in record { sign = D.minus; first = q.first; others = q.others }

pub unsigned-text : (n : ℕ) → D.integer_text (unsigned_for n) ≡ decimal n
unfolding D.integer_text unsigned_for
unsigned-text n = (digits_of_lem n).text

pub unsigned-good : (n : ℕ) → D.GoodInteger (unsigned_for n) × ((unsigned_for n).sign ≡ D.unsigned)
unfolding unsigned_for
unsigned-good n = (record { digits = (digits_of_lem n).each }, refl)

pub unsigned-worth : (n : ℕ) → D.digits_value 0 ((unsigned_for n).first ∷ (unsigned_for n).others) ≡ n
unfolding unsigned_for
unsigned-worth n = (digits_of_lem n).worth

pub integer-text : (z : ℤ) → D.integer_text (integer_for z) ≡ integer_text z
unfolding D.integer_text integer_for
integer-text (pos n) = unsigned-text n
integer-text (negsuc n) = ap (λ (l : List ℕ). 45 ∷ l) (digits_of_lem (suc n)).text

pub integer-good : (z : ℤ) → D.GoodInteger (integer_for z)
unfolding integer_for
integer-good (pos n) = (unsigned-good n).0
integer-good (negsuc n) = record { digits = (digits_of_lem (suc n)).each }

pub integer-worth : (z : ℤ) → D.integer_value (integer_for z) ≡ z
unfolding D.integer_value integer_for unsigned_for
integer-worth (pos n) = ap pos (unsigned-worth n)
integer-worth (negsuc n) = ap (λ (k : ℕ). neg_ℤ (pos k)) (digits_of_lem (suc n)).worth

-- ---- terms

-- a plain variable with a file number of at most `most`
pub record Plain (most : ℕ) (t : Term) : Type 0 where
  pub plain : negated t.code ≡ false
  pub within : index_of t.code + 1 ≤ most

pub tree_of : Term → D.WeightedTerm
tree_of t =
    let v = digits_of_lem (index_of t.code + 1) in
    record { weight = integer_for t.weight; gap = 0; first = v.first; others = v.others; behind = 0 }

module _ (most : ℕ) (t : Term) (g : Plain most t) where
  variable-of : D.variable_of (tree_of t) ≡ index_of t.code + 1
  unfolding D.variable_of tree_of
  variable-of = (digits_of_lem (index_of t.code + 1)).worth

  term-text : D.term_text (tree_of t) ≡ spaced 1 t
  unfolding D.term_text D.spaces tree_of spaced term_text literal_text number_text
  term-text =
      let v = digits_of_lem (index_of t.code + 1) in
      rw (g.plain, integer-text t.weight, ← v.text)
      (sym (append_assoc (integer_text t.weight) (space ∷ 120 ∷ digit_bytes (v.first ∷ v.others)) (space ∷ [])))

  term-good : D.GoodTerm most (tree_of t)
  unfolding tree_of
  term-good = record {
    weight = integer-good t.weight;
    digits = (digits_of_lem (index_of t.code + 1)).each;
    low = omega (arith, variable-of);
    high = omega (arith, variable-of, g.within);
  }

  term-means : (b : ℕ → Bool)
      → D.integer_value (tree_of t).weight *ℤ D.bit (b (D.variable_of (tree_of t))) ≡ cond (is_true (by_index b) t.code) t.weight (pos 0)
  unfolding is_true
  term-means b =
      let w : D.integer_value (tree_of t).weight ≡ t.weight = unfold tree_of in integer-worth t.weight in
      rw (variable-of, w, g.plain) (sym (times-bit t.weight (b (index_of t.code + 1))))

-- ---- sums

module _ (most : ℕ) where
  pub sum-text : (ts : List Term) → AllOf (Plain most) ts → D.sum_text (map tree_of ts) ≡ joined (spaced 1) ts
  unfolding joined
  sum-text [] g = refl
  sum-text (t ∷ ts) g = ap₂ (λ (x y : List ℕ). x ++ y) (term-text most t g.0) (sum-text ts g.1)

  pub sum-good : (ts : List Term) → AllOf (Plain most) ts → AllOf (D.GoodTerm most) (map tree_of ts)
  sum-good [] g = tt
  sum-good (t ∷ ts) g = (term-good most t g.0, sum-good ts g.1)

  pub sum-means : (ts : List Term) → AllOf (Plain most) ts → (b : ℕ → Bool) → D.sum_value b (map tree_of ts) ≡ sum_of (by_index b) ts
  unfolding D.sum_value sum_of
  sum-means [] g b = refl
  sum-means (t ∷ ts) g b = ap₂ (λ (x y : ℤ). x +ℤ y) (term-means most t g.0 b) (sum-means ts g.1 b)
