-- How do items follow one another, "each from where the last one stopped" (01, "The text")? Statements in a file, terms
-- in a sum. A step says what stands at the front.
use Rattle.std.specs.Prelude.{ℕ, zero, suc, pred, ◌+◌, List, [], ◌∷◌}
use Rattle.definitions.specs.Refusal.{Refusal, further}

-- no item here; a refusal, its place counted from here; an item of n bytes
pub data Step (A : Type 0) : Type 0 where
  stop : Step A
  bad : Refusal → Step A
  item : A → ℕ → Step A

-- a refusal; or the items, and where they end
pub data Walked (A : Type 0) : Type 0 where
  broken : Refusal → Walked A
  items : List A → ℕ → Walked A

abbrev pub before : {A : Type 0} → A → Walked A → Walked A
before a (broken r) = broken r
before a (items xs e) = items (a ∷ xs) e

-- `place` says an item anew for the offset that it was found at
module _ {A : Type 0} (step : List ℕ → Step A) (place : ℕ → A → A) where
  -- by bytes: k of them still belong to the last item; at is the offset
  unfoldable pub walk : List ℕ → ℕ → ℕ → Walked A
  walk [] k at = items [] at
  walk (b ∷ s) (suc k) at = walk s k (at + 1)
  walk (b ∷ s) zero at =
      elim (step (b ∷ s)) [
        | stop ↦ items [] at
        | bad r ↦ broken (further at r)
        | item a n ↦ before (place at a) (walk s (pred n) (at + 1))
      ]

  unfoldable pub all : List ℕ → Walked A
  all s = walk s 0 0

-- an item that says nothing of its offset
abbrev pub anywhere : {A : Type 0} → ℕ → A → A
anywhere at a = a
