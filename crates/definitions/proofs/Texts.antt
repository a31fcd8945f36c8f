-- Does what stands at the front stay within the text, and does a digit or a sign begin a constraint?
use Prim.Native.Nat.{ℕ, zero, suc, ◌≤◌}
use mathlib.Core.Path.{◌≡◌, refl, sym}
use mathlib.Core.Bool.{Bool, true, false, cond, ◌&&◌, ◌||◌}
use mathlib.Core.Logic.{⊎_elim}
use mathlib.Core.List.{List, [], ◌∷◌}
use native.Mathlib.Omega.{arith}
use lib.Dec.{eqb}
use lib.ListN.{length}
use Rattle.definitions.specs.declared.Beginning.{Beginning}
use Rattle.definitions.specs.declared.Beginning.TheVariants.{Comment, Objective, Constraint, Nothing}
use Rattle.definitions.specs.Bytes.{lf, cr, is_digit, is_sign, is_blank, class_of, begins, is_at}
use Rattle.definitions.specs.Bytes.{blanks, line_ending, until_ending}
use Rattle.definitions.proofs.Truths.{never, either, cond_same, cond-pushed}

-- ---- within the text
-- one more where a test holds, else none
one_more : (t : Bool) (n m : ℕ) → n ≤ m → elim t [ true ↦ suc n | false ↦ zero ] ≤ suc m
one_more true n m h = omega arith
one_more false n m h = omega arith

pub blanks-within : (s : List ℕ) → blanks s ≤ length s
unfolding blanks
blanks-within [] = omega arith
blanks-within (b ∷ s) = one_more (is_blank b) (blanks s) (length s) (blanks-within s)

-- an LF, or a CR and an LF behind it
one-or-two : (t u v : Bool) (m : ℕ) → (v ≡ true → 1 ≤ m) → cond t 1 (cond (u && v) 2 0) ≤ suc m
one-or-two true u v m h = omega arith
one-or-two false true true m h = omega (arith, h refl)
one-or-two false true false m h = omega arith
one-or-two false false v m h = omega arith

at-within : (b : ℕ) (s : List ℕ) → is_at b s ≡ true → 1 ≤ length s
unfolding is_at
at-within b [] e = never cc
at-within b (c ∷ s) e = omega arith

pub ending-within : (s : List ℕ) → line_ending s ≤ length s
unfolding line_ending
ending-within [] = omega arith
ending-within (b ∷ s) = one-or-two (eqb b lf) (eqb b cr) (is_at lf s) (length s) (at-within lf s)

until-more : (k n m : ℕ) → n ≤ m → elim k [ zero ↦ suc n | suc j ↦ zero ] ≤ suc m
until-more zero n m h = omega arith
until-more (suc k) n m h = omega arith

pub until-within : (s : List ℕ) → until_ending s ≤ length s
unfolding until_ending
until-within [] = omega arith
until-within (b ∷ s) = until-more (line_ending (b ∷ s)) (until_ending s) (length s) (until-within s)

-- ---- what begins a constraint

module _ (b : ℕ) where
  pub digit-or-sign-begins : is_digit b || is_sign b ≡ true → begins (class_of b) ≡ Constraint
  unfolding class_of
  digit-or-sign-begins e = ⊎_elim (λ q. rw q) (λ q. rw q (simp (cond-pushed begins, cond_same))) (either (is_digit b) (is_sign b) e)

-- what a byte begins as a number, so that it is computed whether two are one
abbrev pub order : Beginning → ℕ
order Comment = 0
order Objective = 1
order Constraint = 2
order Nothing = 3

abbrev pub same_beginning : Beginning → Beginning → Bool
same_beginning p q = eqb (order p) (order q)

cond-or : (t u : Bool) → cond t true (cond u true false) ≡ t || u
cond-or true u = refl
cond-or false true = refl
cond-or false false = refl

-- where it is known what b begins, `rw` computes the right side
pub digit-or-sign-is-constraint : (b : ℕ) → is_digit b || is_sign b ≡ same_beginning (begins (class_of b)) Constraint
unfolding class_of
digit-or-sign-is-constraint b =
    sym (simp (cond-pushed begins, cond-pushed order, cond-pushed (λ (n : ℕ). eqb n 2), cond_same) (cond-or (is_digit b) (is_sign b)))
