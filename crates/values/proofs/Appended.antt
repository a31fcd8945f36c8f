-- The literals of a string of zeros and ones, and the length that they reach.
use Prim.Native.Nat.{ℕ, ◌+◌, ◌<◌, max}
use mathlib.Core.Path.{◌≡◌, ap, ◌∙◌}
use mathlib.Core.List.{List, [], ◌∷◌, ◌++◌}
use native.Mathlib.Omega.{arith}
use native.Mathlib.Numerals.{add-one}
use lib.Dec.{eqb}
use lib.ListN.{length, get_or, take}
use lib.Seq.{take-suc, length-take-le}
use Rattle.definitions.specs.Literal.{code_of, index_of}
use Rattle.definitions.specs.Values.{zero_digit, length_after, appended}
use Rattle.laws.proofs.ReadRows.{index-of-code}

pub appended-append : (n : ℕ) (s t : List ℕ) → appended n (s ++ t) ≡ appended n s ++ appended (n + length s) t
unfolding appended
appended-append n [] t = ap (λ (m : ℕ). appended m t) (omega arith)
appended-append n (b ∷ s) t =
    let e : n + 1 + length s ≡ n + length (b ∷ s) = omega arith in
    ap (λ l. code_of (eqb b zero_digit) n ∷ l) (appended-append (n + 1) s t ∙ ap (λ (m : ℕ). appended (n + 1) s ++ appended m t) e)

-- one digit more
pub appended-next : (n : ℕ) (s : List ℕ) (i : ℕ) → i < length s
    → appended n (take (i + 1) s) ≡ appended n (take i s) ++ (code_of (eqb (get_or s i 0) zero_digit) (n + i) ∷ [])
unfolding appended
appended-next n s i h =
    rw (add-one i, take-suc s i 0 h) (appended-append n (take i s) (get_or s i 0 ∷ [])
    ∙ ap (λ (m : ℕ). appended n (take i s) ++ appended (n + m) (get_or s i 0 ∷ [])) (length-take-le i s (omega arith)))

-- each literal's variable is the next one, so the length grows by the string's
pub length-after-appended : (n : ℕ) (s : List ℕ) → length_after n (appended n s) ≡ n + length s
unfolding length_after appended
length-after-appended n [] = omega arith
length-after-appended n (b ∷ s) =
    let e : max n (index_of (code_of (eqb b zero_digit) n) + 1) ≡ n + 1 = omega (arith, index-of-code (eqb b zero_digit) n) in
    let f : n + 1 + length s ≡ n + length (b ∷ s) = omega arith in
    ap (λ (m : ℕ). length_after m (appended (n + 1) s)) e ∙ length-after-appended (n + 1) s ∙ f
