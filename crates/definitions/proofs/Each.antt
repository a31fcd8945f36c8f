-- What holds of each of a list? It holds of its parts, of what is made of each, and what follows from it holds of each.
use mathlib.Core.List.{List, [], ◌∷◌, ◌++◌, map}
use Rattle.definitions.specs.Lists.{AllOf}

module _ {B : Type 0} (P : B → Type 0) where
  pub both-parts : (xs ys : List B) → AllOf P xs → AllOf P ys → AllOf P (xs ++ ys)
  both-parts [] ys g h = h
  both-parts (x ∷ xs) ys g h = (g.0, both-parts xs ys g.1 h)

  pub left-part : (xs ys : List B) → AllOf P (xs ++ ys) → AllOf P xs
  left-part [] ys g = tt
  left-part (x ∷ xs) ys g = (g.0, left-part xs ys g.1)

  pub right-part : (xs ys : List B) → AllOf P (xs ++ ys) → AllOf P ys
  right-part [] ys g = g
  right-part (x ∷ xs) ys g = right-part xs ys g.1

  pub each-mapped : {A : Type 0} (f : A → B) (xs : List A) → AllOf (λ (a : A). P (f a)) xs → AllOf P (map f xs)
  each-mapped f [] g = tt
  each-mapped f (x ∷ xs) g = (g.0, each-mapped f xs g.1)

  pub each-so : (Q : B → Type 0) → ((b : B) → P b → Q b) → (xs : List B) → AllOf P xs → AllOf Q xs
  each-so Q f [] g = tt
  each-so Q f (x ∷ xs) g = (f x g.0, each-so Q f xs g.1)
