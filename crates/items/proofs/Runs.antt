-- Runs of bytes at the front: one law for `solid_run` here and for `white_run` and `bit_run` in crates/forms, over any
-- test.
use Prim.Native.Nat.{ℕ, ◌≤◌}
use mathlib.Core.Path.{◌≡◌, refl, ap}
use mathlib.Core.Bool.{Bool, true, false, ◌||◌}
use mathlib.Core.List.{List, [], ◌∷◌}
use native.Mathlib.Omega.{arith}
use lib.Dec.{eqb}
use lib.ListN.{length, take}
use Rattle.std.specs.Prelude.{take_while}
use Rattle.std.specs.List.{list_any}
use Rattle.definitions.specs.Values.{front_of, among}

pub front-more : (t : ℕ → Bool) (b : ℕ) (s : List ℕ) → t b ≡ true → front_of t (b ∷ s) ≡ b ∷ front_of t s
unfolding front_of
front-more t b s e = rw (e, front_of)

pub front-none : (t : ℕ → Bool) (b : ℕ) (s : List ℕ) → t b ≡ false → front_of t (b ∷ s) ≡ []
unfolding front_of
front-none t b s e = rw (e, front_of)

-- the run is the front of the list, as far as it is long
pub front-within : (t : ℕ → Bool) (s : List ℕ) → length (front_of t s) ≤ length s
unfolding front_of
front-within t [] = omega arith
front-within t (b ∷ s) = cases (t b) refl (front-within t s)
  where
    cases : (x : Bool) → t b ≡ x → length (front_of t s) ≤ length s → length (front_of t (b ∷ s)) ≤ length (b ∷ s)
    cases true e h = rw (front-more t b s e) (omega arith)
    cases false e h = rw (front-none t b s e) (omega arith)

pub front-take : (t : ℕ → Bool) (s : List ℕ) → take (length (front_of t s)) s ≡ front_of t s
unfolding front_of
front-take t [] = refl
front-take t (b ∷ s) = cases (t b) refl (front-take t s)
  where
    cases : (x : Bool) → t b ≡ x → take (length (front_of t s)) s ≡ front_of t s
        → take (length (front_of t (b ∷ s))) (b ∷ s) ≡ front_of t (b ∷ s)
    cases true e h = rw (front-more t b s e) (ap (λ (l : List ℕ). b ∷ l) h)
    cases false e h = rw (front-none t b s e)

-- it is what the library's `take_while` takes
pub while-front : (t : ℕ → Bool) (s : List ℕ) → take_while t s ≡ front_of t s
unfolding front_of
while-front t [] = refl
while-front t (b ∷ s) = cases (t b) refl (while-front t s)
  where
    cases : (x : Bool) → t b ≡ x → take_while t s ≡ front_of t s → take_while t (b ∷ s) ≡ front_of t (b ∷ s)
    cases true e h = rw (e, front-more t b s e) (search (arith, h))
    cases false e h = rw (e, front-none t b s e)

-- ---- whether a number is among the bytes, as the library's `contains` says it
pub any-among : (n : ℕ) (s : List ℕ) → list_any (λ b. eqb b n) s ≡ among n s
unfolding among
any-among n [] = refl
any-among n (b ∷ s) = ap (λ (x : Bool). eqb b n || x) (any-among n s)
