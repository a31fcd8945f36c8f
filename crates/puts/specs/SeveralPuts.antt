-- What several puts leave, one text behind the other: each at the place that the one before it gave. One that does not
-- fit is left out.
use Rattle.std.specs.Prelude.{ℕ, ◌≡◌, List, [], ◌∷◌}
use Rattle.definitions.specs.Output.{put_in}
use Rattle.puts.specs.Lands.{place_after}

unfoldable pub place_behind : List (List ℕ) → ℕ → List ℕ → ℕ
place_behind [] at o = at
place_behind (t ∷ ts) at o = place_behind ts (place_after t at o) (put_in t at o)

unfoldable pub put_each : List (List ℕ) → ℕ → List ℕ → List ℕ
put_each [] at o = o
put_each (t ∷ ts) at o = put_each ts (place_after t at o) (put_in t at o)

pub record LandsEach (texts : List (List ℕ)) (at : ℕ) (o : List ℕ) (r : ℕ) (o' : List ℕ) : Type 0 where
  pub place : r ≡ place_behind texts at o
  pub after : o' ≡ put_each texts at o
