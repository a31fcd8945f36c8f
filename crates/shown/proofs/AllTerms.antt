-- The terms of a row in its part of the two columns, from one on: the next of them, and the end.
use mathlib.Core.Path.{◌≡◌, ap}
use mathlib.Core.Bool.{Bool}
use mathlib.Core.List.{List, [], ◌∷◌, map}
use Prim.Native.Nat.{ℕ, ◌+◌, ◌≤◌, ◌<◌, min}
use lib.IntN.{ℤ, pos}
use lib.ListN.{length, get_or, drop}
use Rattle.definitions.specs.Row.{term}
use Rattle.term_checks.proofs.Terms.{terms-from, terms-end}
use Rattle.shown.specs.Terms.{own_term, own_terms}

module _ (unit : Bool) (ws : List ℤ) (cs : List ℕ) (i : ℕ) where
  pub own-from : i < length ws → i < length cs
      → own_terms unit (drop i ws) (drop i cs) ≡ own_term unit (term (get_or ws i (pos 0)) (get_or cs i 0)) ∷ own_terms unit (drop (i + 1) ws)
      (drop (i + 1) cs)
  own-from h g = ap (map (own_term unit)) (terms-from ws cs i h g)

  pub own-end : min (length ws) (length cs) ≤ i → own_terms unit (drop i ws) (drop i cs) ≡ []
  own-end h = ap (map (own_term unit)) (terms-end ws cs i h)
