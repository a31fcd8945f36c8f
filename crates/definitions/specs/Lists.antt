-- Which words on lists do the other files use?
use Rattle.std.specs.Prelude.{ℕ, ◌+◌, Bool, true, false, ◌&&◌, eqb, List, [], ◌∷◌, ◌++◌, length, drop}

-- xs from the front, the rest as it was: "an accepted one changes only the entries it counts, from the front" (01)
abbrev pub over : {A : Type 0} → List A → List A → List A
over xs l = xs ++ drop (length xs) l

-- the texts of a list, one after the other
unfoldable pub joined : {A B : Type 0} → (B → List A) → List B → List A
joined f [] = []
joined f (b ∷ bs) = f b ++ joined f bs

-- what g gives for each, added up
unfoldable pub total : {A : Type 0} → (A → ℕ) → List A → ℕ
total g [] = 0
total g (x ∷ xs) = g x + total g xs

-- whether the bytes of w stand at the front
unfoldable pub starts_with : List ℕ → List ℕ → Bool
starts_with [] s = true
starts_with (p ∷ w) [] = false
starts_with (p ∷ w) (b ∷ s) = eqb b p && starts_with w s

-- P of each
abbrev pub AllOf : {B : Type 0} → (B → Type 0) → List B → Type 0
AllOf P [] = Unit {0}
AllOf P (b ∷ bs) = P b × AllOf P bs
