-- Laws for the code of tokens: what `whole_number`, `literal_for`, `signed_token` and `x_token` are in each case that the
-- code tells apart. A number that stopped at the cap says the same as the number itself: the cap is no 0, and beyond
-- every file number.
use Prim.Native.Nat.{ℕ, zero, suc, ◌≤◌, ◌<◌, min}
use mathlib.Core.Path.{◌≡◌, refl, sym, ap, ◌∙◌}
use mathlib.Core.Logic.{◌⊎◌, inl, inr}
use mathlib.Core.Bool.{Bool, true, false, cond, not, ◌&&◌, and-false}
use mathlib.Core.List.{List, [], ◌∷◌}
use native.Mathlib.Omega.{arith}
use native.Mathlib.Decide.{dec_le}
use borrow.Author.Tests.{eq-eqb, ne_eqb}
use types.Run.{OneOf}
use lib.Dec.{eqb}
use lib.ListN.{length, get_or, drop}
use Rattle.definitions.specs.Bytes.{plus, minus, tilde, letter_x}
use Rattle.definitions.specs.Literal.{index, code_of, code_for}
use Rattle.definitions.specs.Number.{leading, value}
use Rattle.definitions.specs.Refusal.{Checked, refuse, accept}
use Rattle.definitions.specs.Table.{and_then}
use Rattle.definitions.specs.Values.{whole_number, literal_for, signed_for, signed_token, named_variable, x_token}
use Rattle.numbers.specs.Read.{cap, run_of}
use Rattle.numbers.specs.declared.Run.{Run}
use Rattle.numbers.proofs.DigitWalk.{run_length}
use Rattle.literals.proofs.Conversions.{index-beyond, literal-of-index}
use Rattle.tokens.specs.Said.{capped}

-- ---- digits and nothing else

-- m digits at the front of n bytes
abbrev is_whole : ℕ → ℕ → Bool
is_whole m n = eqb m n && not (eqb n 0)

whole-not : (m n : ℕ) → (m ≡ 0) ⊎ (m < n) → is_whole m n ≡ false
whole-not m zero h = simp and-false
whole-not m (suc n) (inl e) = rw (ne_eqb m (suc n) (λ f. omega arith))
whole-not m (suc n) (inr l) = rw (ne_eqb m (suc n) (λ f. omega arith))

whole_is : (m n : ℕ) → m ≡ n → (m ≡ 0 → ⊥) → is_whole m n ≡ true
whole_is m n e h = rw (eq-eqb m n e, ne_eqb n 0 (λ z. h (e ∙ z)))

module _ (s : List ℕ) (run : Run) (is : run ≡ run_of s) where
  counted : length (leading s) ≡ run.count
  counted = ap (λ (r : Run). r.count) (sym is)

  by-test : (t : Bool) → is_whole run.count (length s) ≡ t
      → capped (cond t (accept (value (leading s))) (refuse 21)) ≡ capped (whole_number s)
  unfolding whole_number
  by-test t e =
      ap (λ (b : Bool). capped (cond b (accept (value (leading s))) (refuse 21))) (sym (ap (λ (m : ℕ). is_whole m (length s)) counted ∙ e))

  pub whole-bad : (run.count ≡ 0) ⊎ (run.count < length s) → refuse 21 ≡ capped (whole_number s)
  whole-bad h = by-test false (whole-not run.count (length s) h)

  pub whole-number : (run.count ≡ 0 → ⊥) → length s ≤ run.count → accept run.size ≡ capped (whole_number s)
  whole-number h l =
      ap (λ (r : Run). accept r.size) is
      ∙ by-test true (whole_is run.count (length s) (omega (arith, run_length s run is)) h)

-- ---- the literal of a number
abbrev pub one_code : ℕ → Checked (List ℕ)
one_code c = accept (c ∷ [])

module _ (negative : Bool) (n : ℕ) where
  pub literal-is : (g : Checked ℕ) → g ≡ index 1 n → and_then g (λ v. one_code (code_of negative v)) ≡ literal_for negative n
  literal-is g e = ap (λ (g : Checked ℕ). and_then g (λ v. one_code (code_of negative v))) e

  pub literal-coded : (v : ℕ) → accept v ≡ index 1 n → (g : Checked ℕ) → g ≡ code_for negative v → and_then g one_code ≡ literal_for negative n
  literal-coded v e g f =
      ap (λ (g : Checked ℕ). and_then g one_code) (f ∙ sym (literal-of-index 1 n v e negative)) ∙ literal-is (accept v) e

-- ---- the cap
module _ (negative : Bool) (n : ℕ) where
  pub capped-literal : literal_for negative (min n cap) ≡ literal_for negative n
  capped-literal = cases (dec_le n cap)
    where
      cases : Dec (n ≤ cap) → literal_for negative (min n cap) ≡ literal_for negative n
      cases (yes h) = ap (literal_for negative) (omega arith)
      cases (no h) =
          literal-is negative n (index 1 (min n cap)) (sym (index-beyond 1 (min n cap) (omega arith)) ∙ index-beyond 1 n (omega arith))

  pub signed-some : (n ≡ 0 → ⊥) → literal_for negative n ≡ signed_for negative n
  signed-some h = ap (λ (b : Bool). cond b (accept []) (literal_for negative n)) (sym (ne_eqb n 0 h))

pub capped-signed : (negative : Bool) (n : ℕ) → signed_for negative (min n cap) ≡ signed_for negative n
capped-signed negative n = cases (dec_le n cap)
  where
    cases : Dec (n ≤ cap) → signed_for negative (min n cap) ≡ signed_for negative n
    cases (yes h) = let e : min n cap ≡ n = omega arith in ap (signed_for negative) e
    cases (no h) =
        sym (signed-some negative (min n cap) (λ e. omega arith)) ∙ capped-literal negative n ∙ signed-some negative n (λ e. omega arith)

-- what is said of a number is said of the number that stopped
pub capped-then : (f : ℕ → Checked (List ℕ)) → ((n : ℕ) → f (min n cap) ≡ f n) → (h g : Checked ℕ) → h ≡ capped g
    → and_then h f ≡ and_then g f
capped-then f k h (refuse e) q = ap (λ (x : Checked ℕ). and_then x f) q
capped-then f k h (accept n) q = ap (λ (x : Checked ℕ). and_then x f) q ∙ k n

-- ---- a sign or none
pub signed-minus : (s : List ℕ) → (length s ≡ 0 → ⊥) → get_or s 0 0 ≡ minus
    → and_then (whole_number (drop 1 s)) (signed_for true) ≡ signed_token s
unfolding signed_token
signed-minus [] h e = absurd (h refl)
signed-minus (b ∷ s) h e = rw (eq-eqb b minus e)

pub signed-plus : (s : List ℕ) → (length s ≡ 0 → ⊥) → get_or s 0 0 ≡ plus → and_then (whole_number (drop 1 s)) (signed_for false) ≡ signed_token s
unfolding signed_token
signed-plus [] h e = absurd (h refl)
signed-plus (b ∷ s) h e = rw e

pub signed-plain : (s : List ℕ) → (length s ≡ 0) ⊎ ((get_or s 0 0 ≡ minus → ⊥) × (get_or s 0 0 ≡ plus → ⊥))
    → and_then (whole_number s) (signed_for false) ≡ signed_token s
unfolding signed_token whole_number leading
signed-plain [] h = refl
signed-plain (b ∷ s) (inl e) = absurd (omega arith)
signed-plain (b ∷ s) (inr h) = rw (ne_eqb b minus h.0, ne_eqb b plus h.1)

-- ---- `x`, and a negation or none
pub named-empty : (negative : Bool) (s : List ℕ) → length s ≡ 0 → refuse 21 ≡ named_variable negative s
unfolding named_variable
named-empty negative [] e = refl
named-empty negative (b ∷ s) e = absurd (omega arith)

pub named_other : (negative : Bool) (s : List ℕ) → (length s ≡ 0 → ⊥) → (get_or s 0 0 ≡ letter_x → ⊥) → refuse 21 ≡ named_variable negative s
unfolding named_variable
named_other negative [] h n = absurd (h refl)
named_other negative (b ∷ s) h n = rw (ne_eqb b letter_x n)

pub named-x : (negative : Bool) (s : List ℕ) → (length s ≡ 0 → ⊥) → get_or s 0 0 ≡ letter_x
    → and_then (whole_number (drop 1 s)) (literal_for negative) ≡ named_variable negative s
unfolding named_variable
named-x negative [] h e = absurd (h refl)
named-x negative (b ∷ s) h e = rw (eq-eqb b letter_x e)

pub x-negated : (s : List ℕ) → (length s ≡ 0 → ⊥) → OneOf (minus ∷ tilde ∷ []) (get_or s 0 0) → named_variable true (drop 1 s) ≡ x_token s
unfolding x_token
x-negated [] h e = absurd (h refl)
x-negated (b ∷ s) h (inl e) = rw e
x-negated (b ∷ s) h (inr e) = rw e

pub x-plain : (s : List ℕ) → (length s ≡ 0) ⊎ (OneOf (minus ∷ tilde ∷ []) (get_or s 0 0) → ⊥) → named_variable false s ≡ x_token s
unfolding x_token named_variable
x-plain [] h = refl
x-plain (b ∷ s) (inl e) = absurd (omega arith)
x-plain (b ∷ s) (inr n) = rw (ne_eqb b tilde (λ e. n (inr e)), ne_eqb b minus (λ e. n (inl e)))
