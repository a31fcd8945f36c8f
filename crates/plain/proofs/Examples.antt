-- Which texts have a plain term at their front, by examples, with the first index 1.
use mathlib.Core.Path.{◌≡◌, refl}
use mathlib.Core.Bool.{Bool, true, false}
use mathlib.Core.List.{List, [], ◌∷◌, map}
use Prim.Native.Nat.{ℕ}
use Prim.Native.String.{String}
use Rattle.definitions.specs.File.{first_at}
use Rattle.definitions.specs.Number.{leading, value_on}
use Rattle.definitions.specs.Bytes.{bytes}
use Rattle.plain_parts.specs.PartForms.{is_part, sign, letters, is_literal}
use Rattle.plain.specs.Plain.{Plain, plain, other, behind, term_bytes, is_plain, plain_at}

pub record Example : Type 0 where
  pub text : String
  pub says : Plain

abbrev pub example : String → Plain → Example
example t p = record { text = t; says = p }

-- sign, size, negation, file number; and the bytes
abbrev pub found : Bool → ℕ → Bool → ℕ → ℕ → Plain
found negative size negated number n = plain (record { negative = negative; size = size; negated = negated; number = number }) n

abbrev pub examples : List Example
examples =
    example "-12 ~x345 +1 x2 ;" (found true 12 true 345 10)
    ∷ example "1234567 x123456 >= 0;" (found false 1_234_567 false 123_456 16)
    ∷ example "007 x09 2 x1 >= 0 ;" (found false 7 false 9 8)
    ∷ example "12345678 x1 >= 0;" other
    ∷ example "1 x1234567 >= 0 ;" other
    ∷ example "+1 x1 2 x2 >= 1 ;" other
    ∷ example "1 -x1 2 x2 >= 1 ;" other
    ∷ example "1  x1 2 x2 >= 1 ;" other
    ∷ example "1 x1  2 x2 >= 1 ;" other
    ∷ example "1 x0 2 x2 >= 10 ;" other
    ∷ example "1 x1 2 x2 >= 1 ;" other
    ∷ []

pub each-example : map (λ (e : Example). plain_at (first_at 1) (bytes e.text)) examples ≡ map (λ (e : Example). e.says) examples
unfolding leading value_on is_part sign letters is_literal behind term_bytes is_plain plain_at
each-example = refl
