-- What a refusal that `map_err` turns into another was, and that an answer went by it unchanged.
use mathlib.Core.Path.{◌≡◌, refl}
use Rattle.std.specs.Prelude.{Result, Ok, Err, MatchResult}
use Rattle.definitions.proofs.Truths.{never}

module _ {A E : Type 0} (D : Type 0) where
  pub handed-err : (r : Result A E) (d : D) (P R : E → Type 0) → MatchResult r (λ x. ◌≡◌ {A = Result A D} (Err d) (Ok x)) P
      → ((e : E) → P e → R e)
      → (e : E) × (r ≡ Err e) × R e
  handed-err (Ok x) d P R h f = never cc
  handed-err (Err e) d P R h f = (e, refl, f e h)

  pub handed-ok : (r : Result A E) (y : A) (P : E → Type 0) → MatchResult r (λ x. ◌≡◌ {A = Result A D} (Ok y) (Ok x)) P
      → ((e : E) → P e → ⊥)
      → r ≡ Ok y
  handed-ok (Ok x) y P h f = cc
  handed-ok (Err e) y P h f = absurd (f e h)
