-- A test of each code: the library's test of all, and what follows of one code.
use mathlib.Core.Path.{◌≡◌, refl}
use mathlib.Core.Bool.{Bool, true}
use mathlib.Core.List.{List, [], ◌∷◌}
use Prim.Native.Nat.{ℕ, zero, suc, ◌<◌}
use native.Mathlib.Omega.{arith}
use lib.ListN.{length, get_or}
use Rattle.std.specs.List.{list_all}
use Rattle.definitions.proofs.Truths.{both}
use Rattle.term_checks.specs.TermTests.{every}

module _ (p : ℕ → Bool) where
  pub all-every : (cs : List ℕ) → list_all p cs ≡ every p cs
  unfolding every
  all-every [] = refl
  all-every (c ∷ cs) = rw (all-every cs)

  pub every-at : (cs : List ℕ) (i : ℕ) → every p cs ≡ true → i < length cs → p (get_or cs i 0) ≡ true
  unfolding every
  every-at [] i e h = absurd (omega arith)
  every-at (c ∷ cs) zero e h = (both (p c) (every p cs) e).0
  every-at (c ∷ cs) (suc i) e h = every-at cs i (both (p c) (every p cs) e).1 (omega arith)

-- a test that is less strict
pub every-less : (p q : ℕ → Bool) → ((c : ℕ) → p c ≡ true → q c ≡ true) → (cs : List ℕ) → every p cs ≡ true → every q cs ≡ true
unfolding every
every-less p q f [] e = refl
every-less p q f (c ∷ cs) e = rw (f c (both (p c) (every p cs) e).0) (every-less p q f cs (both (p c) (every p cs) e).1)
