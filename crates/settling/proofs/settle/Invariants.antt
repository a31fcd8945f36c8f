-- `settle` meets its contract: what is left of the walk gives the rest of the bits (proofs/TokenSteps.antt). Assumes
-- nothing.
use Prim.Native.Nat.{ℕ, ◌-◌, ◌≤◌}
use mathlib.Core.Path.{◌≡◌}
use mathlib.Core.Bool.{Bool}
use mathlib.Core.List.{List, map}
use lib.ListN.{length, drop}
use Rattle.definitions.specs.Values.{Item, front, items_from, valued, marked}
use Rattle.items.specs.Items.{spot_of}
use Rattle.settling.specs.Flat.{said_by, code_in}
use Rattle.settling.proofs.settle.Given as goal

abbrev pub codes_from : Bool → List Item → List ℕ
codes_from named is = map code_in (said_by named is)

-- what is left of the walk makes the rest of the bits
pub record Left (block : List ℕ) (named : Bool) (ws ks : List ℕ) (at : ℕ) (opens : Bool) (ws' ks' : List ℕ) : Type 0 where
  pub within : at ≤ length block
  pub values_length : length ws' ≡ length ws
  pub known-length : length ks' ≡ length ks
  pub values : valued (codes_from named (items_from (spot_of opens) at (drop at block))) ws'
      ≡ valued (codes_from named (items_from front 0 block)) ws
  pub known : marked (codes_from named (items_from (spot_of opens) at (drop at block))) ks' ≡ marked (codes_from named (items_from front 0 block)) ks

abbrev pub invariant-loop-said : goal.invariant-loop-said
invariant-loop-said l = Left l.block l.named l.initial.values l.initial.known l.at l.opens l.values l.known

abbrev pub decreases-loop-said : goal.decreases-loop-said
decreases-loop-said l = length l.block - l.at
