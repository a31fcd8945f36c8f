-- `survey` meets its contract: what is left of the walk gives the whole answer (proofs/Surveying.antt). Assumes
-- nothing.
use Prim.Native.Nat.{ℕ, ◌-◌, ◌≤◌}
use mathlib.Core.Path.{◌≡◌}
use mathlib.Core.Bool.{Bool}
use mathlib.Core.List.{List}
use lib.ListN.{length, drop}
use Rattle.definitions.specs.Values.{front, items_from}
use Rattle.items.specs.Items.{spot_of}
use Rattle.heard.specs.Surveys.{survey_of}
use Rattle.heard.proofs.survey.survey.Given as goal

-- what is left of the walk gives the whole answer
pub record Left (block : List ℕ) (named : Bool) (kept at : ℕ) (opens : Bool) (n : ℕ) : Type 0 where
  pub within : at ≤ length block
  pub rest : survey_of named n (items_from (spot_of opens) at (drop at block))
      ≡ survey_of named kept (items_from front 0 block)

abbrev pub invariant-loop-said : goal.invariant-loop-said
invariant-loop-said l = Left l.block l.named l.kept l.at l.opens l.length

abbrev pub decreases-loop-said : goal.decreases-loop-said
decreases-loop-said l = length l.block - l.at
