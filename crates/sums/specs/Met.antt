-- The items that a walk meets: those before the place where no item stands, or a refusal.
use Rattle.std.specs.Prelude.{ℕ, zero, suc, pred, List, [], ◌∷◌}
use Rattle.definitions.specs.Walk.{Step, stop, bad, item}
use Rattle.definitions.specs.Row.{Term}
use Rattle.definitions.specs.Text.{term_step}
use Rattle.definitions.specs.declared.Options.{Options}

module _ {A : Type 0} (step : List ℕ → Step A) where
  -- by bytes, as `walk`: k of them still belong to the last item
  unfoldable pub met_from : List ℕ → ℕ → List A
  met_from [] k = []
  met_from (b ∷ s) (suc k) = met_from s k
  met_from (b ∷ s) zero = elim (step (b ∷ s)) [ stop ↦ [] | bad r ↦ [] | item a n ↦ a ∷ met_from s (pred n) ]

-- the terms of the sum at the front of a text, up to its end or its first refusal
abbrev pub met_terms : Options → List ℕ → List Term
met_terms o s = met_from (term_step o) s 0
