-- One step of the first walk over a block: what the next token leaves of the length and of the refusal.
use mathlib.Core.Path.{◌≡◌}
use mathlib.Core.Bool.{Bool}
use mathlib.Core.List.{List, [], ◌∷◌}
use Prim.Native.Nat.{ℕ, ◌+◌, max}
use Rattle.std.specs.Prelude.{Ok, Err}
use Rattle.definitions.specs.Literal.{index_of}
use Rattle.definitions.specs.Refusal.{refusal}
use Rattle.definitions.specs.Values.{Item, length_after}
use Rattle.settling.proofs.TokenSteps.{ends, refuses, says, step_of, ends-step, refuses-step, says-step}
use Rattle.heard.specs.Surveys.{survey_of}

module _ (named : Bool) (n : ℕ) (is : List Item) where
  pub survey-ends : step_of named is ≡ ends → Ok n ≡ survey_of named n is
  unfolding length_after
  survey-ends e = let s = ends-step named is e in rw (s.0, s.1)

  pub survey-refuses : (number place : ℕ) → step_of named is ≡ refuses number place → Err (refusal number place) ≡ survey_of named n is
  survey-refuses number place e = let s = refuses-step named is number place e in rw (s.0, s.1)

  pub survey-nothing : (p : ℕ) (rest : List Item) → step_of named is ≡ says p [] rest → survey_of named n is ≡ survey_of named n rest
  survey-nothing p rest e = let s = says-step named is p [] rest e in rw (s.0, s.1)

  pub survey-says : (p c : ℕ) (rest : List Item) → step_of named is ≡ says p (c ∷ []) rest
      → survey_of named n is ≡ survey_of named (max n (index_of c + 1)) rest
  unfolding length_after
  survey-says p c rest e = let s = says-step named is p (c ∷ []) rest e in rw (s.0, s.1)
