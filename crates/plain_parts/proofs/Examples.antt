-- Which texts have a weight or a literal of a plain term at their front, by examples.
use mathlib.Core.Path.{◌≡◌, refl}
use mathlib.Core.Bool.{true, false}
use mathlib.Core.List.{List, [], ◌∷◌, map}
use Prim.Native.String.{String}
use Rattle.definitions.specs.Number.{leading, value_on}
use Rattle.definitions.specs.Bytes.{bytes}
use Rattle.plain_parts.specs.PartForms.{Found, found, nothing, is_part, sign, weight_at, letters, is_literal, literal_at}

pub record Example : Type 0 where
  pub text : String
  pub says : Found

abbrev pub example : String → Found → Example
example t f = record { text = t; says = f }

abbrev pub weights : List Example
weights =
    example "-12 ~x345 +1 x2 ;" (found true 12 3)
    ∷ example "1234567 " (found false 1_234_567 7)
    ∷ example "007 x12 " (found false 7 3)
    ∷ example "12345678 x1" nothing
    ∷ example "-123\tx1 " nothing
    ∷ example "- 1 x1 2" nothing
    ∷ example "+1 x1 2 " nothing
    ∷ example "1 x1 >=" nothing
    ∷ []

abbrev pub literals : List Example
literals =
    example "~x345 +1 x2 ;" (found true 345 5)
    ∷ example "x123456 " (found false 123_456 7)
    ∷ example "x007 >= " (found false 7 4)
    ∷ example "~x123456 " nothing
    ∷ example "x1;     " nothing
    ∷ example "~ x1 2 x" nothing
    ∷ example "-x1 2 x2" nothing
    ∷ example "~x00 2 x" nothing
    ∷ example "x1 >= 1" nothing
    ∷ []

pub each-weight : map (λ (e : Example). weight_at (bytes e.text)) weights ≡ map (λ (e : Example). e.says) weights
unfolding leading value_on is_part sign weight_at
each-weight = refl

pub each-literal : map (λ (e : Example). literal_at (bytes e.text)) literals ≡ map (λ (e : Example). e.says) literals
unfolding leading value_on is_part letters is_literal literal_at
each-literal = refl
