-- What is known of a literal's variable, by the bits that the code reads and makes.
use Prim.Native.Nat.{ℕ, ◌*◌, ◌/◌, ◌≤◌, ◌<◌}
use mathlib.Core.Path.{◌≡◌, refl, ◌∙◌}
use mathlib.Core.Bool.{Bool, true, false, cond, not, ◌&&◌, and-false, beq}
use mathlib.Core.List.{List, [], ◌∷◌}
use native.Mathlib.Omega.{arith}
use borrow.Author.Tests.{lt-ltb, le-ltb}
use lib.ListN.{length}
use Rattle.definitions.specs.Literal.{index_of, negated}
use Rattle.definitions.specs.Meaning.{is_true, assigned, is_known}
use Rattle.definitions.specs.Values.{bit_made, valued, marked}

turned : (a n : Bool) → beq a n ≡ not (cond n (not a) a)
turned true true = refl
turned true false = refl
turned false true = refl
turned false false = refl

-- a literal is false by a known variable, or not
module _ (ws ks : List ℕ) (c v : ℕ) (e : v ≡ index_of c) where
  pub unknown-beyond : length ws ≤ v / 64 → false ≡ (is_known ws ks (index_of c) && not (is_true (assigned ws) c))
  unfolding is_known
  unknown-beyond h = rw (le-ltb (index_of c) (64 * length ws) (omega arith))

  pub unmarked : assigned ks v ≡ false → false ≡ (is_known ws ks (index_of c) && not (is_true (assigned ws) c))
  unfolding is_known
  unmarked h = rw (← e, h) (simp and-false)

  pub known-otherwise : v / 64 < length ws → assigned ks v ≡ true
      → beq (assigned ws v) (negated c) ≡ (is_known ws ks (index_of c) && not (is_true (assigned ws) c))
  unfolding is_known is_true
  known-otherwise h m = rw (← e, lt-ltb v (64 * length ws) (omega arith), m) (turned (assigned ws v) (negated c))

-- one literal becomes true
pub valued_one : (b : Bool) (c v : ℕ) (ws ws' : List ℕ) → v ≡ index_of c → b ≡ not (negated c) → ws' ≡ bit_made b v ws
    → ws' ≡ valued (c ∷ []) ws
unfolding valued
valued_one b c v ws ws' e f h = h ∙ rw (e, f)

pub marked-one : (c v : ℕ) (ks ks' : List ℕ) → v ≡ index_of c → ks' ≡ bit_made true v ks → ks' ≡ marked (c ∷ []) ks
unfolding marked
marked-one c v ks ks' e h = h ∙ rw e
