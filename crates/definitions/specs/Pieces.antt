-- What does it say that a text is taken piece by piece, with nothing left between (01: "Each reading step takes the
-- rest of the file from where the last one stopped")? Words of a theorem: proofs/WholeFile.antt has the statement.
use Rattle.std.specs.Prelude.{ℕ, ◌+◌, ◌≡◌, true, List, [], ◌∷◌, ◌++◌, length}
use Rattle.definitions.specs.Lists.{joined}
use Rattle.definitions.specs.Bytes.{is_blank}
use Rattle.definitions.specs.Walk.{Step, item}

-- the pieces, one after the other
abbrev pub together : List (List ℕ) → List ℕ
together xs = joined (λ (x : List ℕ). x) xs

abbrev pub Blank : ℕ → Type 0
Blank b = is_blank b ≡ true

module _ {A : Type 0} (step : List ℕ → Step A) (place : ℕ → A → A) where
  -- the pieces from the offset `at` on, and the items: each piece is exactly what `step` takes of it and all behind it,
  -- the tail included, and the item is what it finds there, said for the piece's offset
  pub data Pieces : ℕ → List (List ℕ) → List ℕ → List A → Type 0 where
    none : {at : ℕ} {tail : List ℕ} → Pieces at [] tail []
    next : {at : ℕ} {x : List ℕ} {xs : List (List ℕ)} {tail : List ℕ} {a : A} {l : List A}
        → step (x ++ (together xs ++ tail)) ≡ item a (length x)
        → Pieces (at + length x) xs tail l → Pieces at (x ∷ xs) tail (place at a ∷ l)
