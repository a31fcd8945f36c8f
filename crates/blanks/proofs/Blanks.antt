-- Blanks passed one by one, for the loop of `blanks_of`.
use Prim.Native.Nat.{ℕ, suc, ◌+◌, ◌≤◌, ◌<◌}
use mathlib.Core.Path.{◌≡◌}
use mathlib.Core.Logic.{◌⊎◌, inl, inr}
use mathlib.Core.Bool.{true, false}
use mathlib.Core.List.{List}
use native.Mathlib.Omega.{arith}
use native.Mathlib.Numerals.{add-one}
use borrow.Author.Tests.{ne_eqb}
use lib.ListN.{length, get_or, drop, drop_of_length-le}
use lib.Seq.{drop-cons}
use Rattle.definitions.specs.Bytes.{space, tab, is_blank, blanks}

not-blank : (b : ℕ) → (b ≡ space → ⊥) → (b ≡ tab → ⊥) → is_blank b ≡ false
not-blank b p q = rw (ne_eqb b space p, ne_eqb b tab q)

is-blank : (b : ℕ) → (b ≡ space) ⊎ (b ≡ tab) → is_blank b ≡ true
is-blank b (inl e) = rw e
is-blank b (inr e) = rw e

-- i blanks are passed
pub record Passed (s : List ℕ) (i : ℕ) : Type 0 where
  pub within : i ≤ length s
  pub count : blanks s ≡ i + blanks (drop i s)

pub passed_none : (s : List ℕ) → Passed s 0
passed_none s = record { within = omega arith; count = omega arith }

module _ (s : List ℕ) (i : ℕ) (p : Passed s i) where
  pub passed-all : length s ≤ i → length s ≡ blanks s
  unfolding blanks
  passed-all h =
      let z : blanks (drop i s) ≡ 0 = rw (drop_of_length-le s h) in
      omega (arith, p.count, p.within)

  module _ (h : i < length s) where
    pub passed-end : (get_or s i 0 ≡ space → ⊥) → (get_or s i 0 ≡ tab → ⊥) → i ≡ blanks s
    unfolding blanks
    passed-end a b =
        let z : blanks (drop i s) ≡ 0 = rw (drop-cons s i 0 h, not-blank (get_or s i 0) a b, blanks) in
        omega (arith, p.count)

    pub passed-more : (get_or s i 0 ≡ space) ⊎ (get_or s i 0 ≡ tab) → Passed s (i + 1)
    unfolding blanks
    passed-more a =
        let z : blanks (drop i s) ≡ suc (blanks (drop (suc i) s)) = rw (drop-cons s i 0 h, is-blank (get_or s i 0) a, blanks) in
        rw add-one (record { within = h; count = omega (arith, p.count) })
