-- Literals under an assignment lent as words: a literal's value by its variable's bit, and whether the assignment has
-- the bit.
use mathlib.Core.Path.{◌≡◌, refl, ap}
use mathlib.Core.Bool.{Bool, true, false, not, ◌&&◌}
use mathlib.Core.List.{List, [], ◌∷◌}
use Prim.Native.Nat.{ℕ, ◌*◌, ◌/◌, ◌%◌, ◌<◌}
use native.Mathlib.Omega.{arith}
use borrow.Author.Tests.{ltb-true}
use lib.IntN.{ℤ}
use lib.ListN.{length, get_or}
use Rattle.definitions.specs.Literal.{index_of, negated}
use Rattle.definitions.specs.Table.{terms_on}
use Rattle.definitions.specs.Meaning.{is_true, assigned}
use Rattle.definitions.specs.Evaluate.{covered, within}
use Rattle.term_checks.specs.TermTests.{every}
use Rattle.term_checks.proofs.Every.{every-at}
use Rattle.assigned.specs.WordsSay.{codes_covered}
use Rattle.assigned.proofs.Known.{bit_of}

-- the bit of a variable, as the code takes it
abbrev bit : List ℕ → ℕ → Bool
bit ws v = bit_of (get_or ws (v / 64) 0) (v % 64)

module _ (ws : List ℕ) (c v : ℕ) (e : v ≡ index_of c) where
  pub true-negated : negated c ≡ true → not (bit ws v) ≡ is_true (assigned ws) c
  unfolding is_true assigned
  true-negated n = rw (e, n)

  pub true-plain : negated c ≡ false → bit ws v ≡ is_true (assigned ws) c
  unfolding is_true assigned
  true-plain n = rw (e, n)

-- the definition over terms
pub covered-on : (has : ℕ → Bool) (ws : List ℤ) (cs : List ℕ) → length ws ≡ length cs → covered has (terms_on ws cs) ≡ codes_covered has cs
unfolding covered terms_on every
covered-on has [] [] h = refl
covered-on has [] (c ∷ cs) h = absurd (omega arith)
covered-on has (w ∷ ws) [] h = absurd (omega arith)
covered-on has (w ∷ ws) (c ∷ cs) h = ap (λ (b : Bool). has (index_of c) && b) (covered-on has ws cs (omega arith))

pub covered-at : (words cs : List ℕ) (i : ℕ) → codes_covered (within words) cs ≡ true → i < length cs
    → index_of (get_or cs i 0) < 64 * length words
covered-at words cs i e h =
    ltb-true (index_of (get_or cs i 0)) (64 * length words) (every-at (λ c. within words (index_of c)) cs i e h)
