-- The order of the refusals, in columns of one length; and the terms of a row under the words that are looked at.
use mathlib.Core.Path.{◌≡◌}
use mathlib.Core.Bool.{Bool, true, false}
use mathlib.Core.List.{List}
use Prim.Native.Nat.{ℕ, ◌+◌, ◌≤◌, ◌<◌, min}
use borrow.Author.Tests.{le-leb, lt-leb}
use lib.Dec.{leb}
use lib.IntN.{ℤ}
use lib.ListN.{length, take, drop}
use Rattle.std.specs.Prelude.{Option, option_map}
use Rattle.definitions.specs.Limits.{weight_limit, word_limit}
use Rattle.definitions.specs.Refusal.{Checked, refuse, accept}
use Rattle.definitions.specs.Table.{terms_on}
use Rattle.definitions.specs.Meaning.{Assignment, sum_of, assigned}
use Rattle.term_checks.specs.TermTests.{codes_indexed, weight_sizes}
use Rattle.term_checks.proofs.Terms.{indexed-on, sizes-on, terms-drop, terms-take}
use Rattle.assigned.specs.WordsSay.{looked, has_by, codes_covered}
use Rattle.assigned.proofs.Known.{taken-looked, has-looked}
use Rattle.summed.specs.Sums.{summed_over, summed_at}
use Rattle.summed.proofs.Literals.{covered-on}

module _ (has : ℕ → Bool) (a : Assignment) (ws : List ℤ) (cs : List ℕ) (l : length ws ≡ length cs) where
  pub sums-11 : codes_indexed cs ≡ false → refuse 11 ≡ summed_over has a (terms_on ws cs)
  sums-11 i = rw (indexed-on ws cs l, i)

  module _ (i : codes_indexed cs ≡ true) where
    pub sums-8 : weight_limit < weight_sizes ws → refuse 8 ≡ summed_over has a (terms_on ws cs)
    sums-8 h = rw (indexed-on ws cs l, i, sizes-on ws cs l, lt-leb (weight_sizes ws) weight_limit h)

    module _ (h : weight_sizes ws ≤ weight_limit) where
      pub sums-12 : codes_covered has cs ≡ false → refuse 12 ≡ summed_over has a (terms_on ws cs)
      sums-12 c = rw (indexed-on ws cs l, i, sizes-on ws cs l, le-leb (weight_sizes ws) weight_limit h, covered-on has ws cs l, c)

      pub sums-up : codes_covered has cs ≡ true → accept (sum_of a (terms_on ws cs)) ≡ summed_over has a (terms_on ws cs)
      sums-up c = rw (indexed-on ws cs l, i, sizes-on ws cs l, le-leb (weight_sizes ws) weight_limit h, covered-on has ws cs l, c)

-- ---- the terms of a row in their columns, under the words that are looked at

pub row-outside : (first count : ℕ) (ws : List ℤ) (cs : List ℕ) (known : Option (List ℕ)) (words : List ℕ)
    → leb (first + count) (min (length ws) (length cs)) ≡ false → refuse 11 ≡ summed_at first count ws cs known words
row-outside first count ws cs known words o = rw o

pub row-summed : (first count n : ℕ) (ws : List ℤ) (cs : List ℕ) (known : Option (List ℕ)) (words : List ℕ) (h : ℕ) (r : Checked ℤ)
    → n ≡ count → h ≡ min (length words) word_limit
    → leb (first + count) (min (length ws) (length cs)) ≡ true
    → r ≡ summed_over (has_by known (take h words)) (assigned (take h words)) (terms_on (take n (drop first ws)) (take n (drop first cs)))
    → r ≡ summed_at first count ws cs (option_map looked known) (looked words)
row-summed first count n ws cs known words h r en eh o e =
    let w : take h words ≡ looked words = rw eh (taken-looked words) in
    rw (o, terms-drop first ws cs, terms-take count (drop first ws) (drop first cs), ← en, ← has-looked known words, ← w) e
