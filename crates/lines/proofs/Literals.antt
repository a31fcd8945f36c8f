-- Laws of a literal that is put behind its weight: its number first, and then what stands before it.
use Prim.Native.Nat.{ℕ, ◌+◌, ◌≤◌}
use mathlib.Core.Path.{◌≡◌, sym, ap, ◌∙◌}
use mathlib.Core.Bool.{Bool, true, false}
use mathlib.Core.List.{List, ◌∷◌}
use Rattle.std.specs.Prelude.{Option, None, Some}
use native.Mathlib.Omega.{arith}
use native.Mathlib.Decide.{dec_le}
use lib.ListN.{length, set}
use lib.Seq.{set-set, set_comm}
use Rattle.definitions.specs.Number.{decimal}
use Rattle.definitions.specs.Output.{put_at}
use Rattle.definitions.specs.Refusal.{refuse, accept}
use Rattle.laws.proofs.Puts.{Puts, placed, put-done, put_full, put-at-full, put-in-full}
use Rattle.definitions.proofs.Truths.{never}
use Rattle.outputs.specs.Print.{put, Prints}
use Rattle.puts.specs.Lands.{Lands}
use Rattle.puts.proofs.LandLaws.{stays, puts-land, byte-before}
use Rattle.shown.specs.Terms.{literal_words}

-- how far behind the space the `x` stands
abbrev pub cross_at : Bool → ℕ
cross_at true = 2
cross_at false = 1

words-length : (tilde : Bool) (n : ℕ) → length (literal_words tilde n) ≡ cross_at tilde + 1 + length (decimal n)
words-length true n = omega arith
words-length false n = omega arith

pub no_place : (tilde : Bool) (n at : ℕ) (o : List ℕ) → length o ≤ at → Lands (literal_words tilde n) at o at o
no_place true n at o h = stays (literal_words true n) at o (omega (arith, words-length true n))
no_place false n at o h = stays (literal_words false n) at o (omega (arith, words-length false n))

module _ (tilde : Bool) (n at x : ℕ) (is : x ≡ cross_at tilde) (o o₁ : List ℕ) (p : Option ℕ) (f : Prints (decimal n) (at + x + 1) o p o₁) where
  pub no-number-put : p ≡ None → Lands (literal_words tilde n) at o at o₁
  no-number-put q = by (dec_le (at + x + 1 + length (decimal n)) (length o))
    where
      by : Dec (at + x + 1 + length (decimal n) ≤ length o) → Lands (literal_words tilde n) at o at o₁
      by (yes h) = put_full (decimal n) (at + x + 1) o h (sym (ap put q) ∙ f.answer)
      by (no h) =
          let s = stays (literal_words tilde n) at o (omega (arith, is, words-length tilde n)) in
          record { place = s.place; after = f.after ∙ put-in-full (decimal n) (at + x + 1) o (omega arith) ∙ s.after }

  module _ (e : ℕ) (q : p ≡ Some e) where
    answer : accept e ≡ put_at (decimal n) (at + x + 1) o
    answer = sym (ap put q) ∙ f.answer

    pub has-place : at + x + 1 + length (decimal n) ≤ length o
    has-place = by (dec_le (at + x + 1 + length (decimal n)) (length o))
      where
        by : Dec (at + x + 1 + length (decimal n) ≤ length o) → at + x + 1 + length (decimal n) ≤ length o
        by (yes h) = h
        by (no h) = let z : accept e ≡ refuse 14 = answer ∙ put-at-full (decimal n) (at + x + 1) o (omega arith) in never (cc)

    number_put : Puts (decimal n) (at + x + 1) o e o₁
    number_put = put-done (decimal n) (at + x + 1) o has-place answer f.after

-- what stands before the number n, which is in the output from `at + x + 1` on
module _ (n at : ℕ) (o : List ℕ) where
  abbrev digits : List ℕ
  digits = decimal n

  tilde-before : at + 3 + length digits ≤ length o
      → set (set (set (placed digits (at + 2 + 1) o) (at + 1) 126) (at + 2) 120) at 32 ≡ placed (literal_words true n) at o
  tilde-before h =
      let two : at + 2 ≡ at + 1 + 1 = omega arith in
      ap (λ (l : List ℕ). set l at 32)
      (set_comm (placed digits (at + 2 + 1) o) (at + 1) (at + 2) 126 120 (λ z. omega arith)
      ∙ ap (λ (l : List ℕ). set l (at + 1) 126)
      (byte-before 120 digits (at + 2) o (omega arith) ∙ ap (λ (k : ℕ). placed (120 ∷ digits) k o) two)
      ∙ byte-before 126 (120 ∷ digits) (at + 1) o (omega arith))
      ∙ byte-before 32 (126 ∷ 120 ∷ digits) at o (omega arith)

  cross-before : at + 2 + length digits ≤ length o
      → set (set (set (placed digits (at + 1 + 1) o) (at + 1) 126) (at + 1) 120) at 32 ≡ placed (literal_words false n) at o
  cross-before h =
      ap (λ (l : List ℕ). set l at 32)
      (set-set (placed digits (at + 1 + 1) o) (at + 1) 126 120 ∙ byte-before 120 digits (at + 1) o (omega arith))
      ∙ byte-before 32 (120 ∷ digits) at o (omega arith)

  all-before : (tilde : Bool) (x : ℕ) → x ≡ cross_at tilde → at + x + 1 + length digits ≤ length o
      → set (set (set (placed digits (at + x + 1) o) (at + 1) 126) (at + x) 120) at 32 ≡ placed (literal_words tilde n) at o
  all-before true x e h = rw e (tilde-before (omega (arith, e)))
  all-before false x e h = rw e (cross-before (omega (arith, e)))

module _ (tilde : Bool) (n at x : ℕ) (is : x ≡ cross_at tilde) (o o₁ : List ℕ) (p : Option ℕ) (f : Prints (decimal n) (at + x + 1) o p o₁) where
  pub literal-put : (e : ℕ) → p ≡ Some e → Lands (literal_words tilde n) at o e (set (set (set o₁ (at + 1) 126) (at + x) 120) at 32)
  literal-put e q =
      let h = has-place tilde n at x is o o₁ p f e q in
      let g = number_put tilde n at x is o o₁ p f e q in
      puts-land (literal_words tilde n) at o (omega (arith, is, words-length tilde n)) (record {
        place = omega (arith, g.place, is, words-length tilde n);
        after = ap (λ (l : List ℕ). set (set (set l (at + 1) 126) (at + x) 120) at 32) g.after ∙ all-before n at o tilde x is h;
      })
