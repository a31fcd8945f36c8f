-- The sums of a row's weights, up to a cap: of all, and of those that the bound falls by.
use Rattle.std.specs.Prelude.{ℕ, ◌+◌, Bool, true, false, List, [], ◌∷◌, ℤ, nat_abs}
use Rattle.definitions.specs.Row.{Term}
use Rattle.term_checks.specs.Sizes.{capped}
use Rattle.shown.specs.declared.terms.Style.{Style}
use Rattle.shown.specs.declared.sums.Sums.{Sums}
use Rattle.shown.specs.Terms.{fallen}

abbrev pub no_sums : Sums
no_sums = record { total = 0; fall = 0 }

abbrev pub fall_with : Bool → ℕ → ℕ → ℕ
fall_with true n m = capped (n + m)
fall_with false n m = n

abbrev pub sums_with : Sums → ℤ → Bool → Sums
sums_with a w falls = record { total = capped (a.total + nat_abs w); fall = fall_with falls a.fall (nat_abs w) }

unfoldable pub summed : Style → Sums → List Term → Sums
summed s a [] = a
summed s a (t ∷ ts) = summed s (sums_with a t.weight (fallen s t)) ts
