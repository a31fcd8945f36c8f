-- The digits of a number below 10,000, and where they stand in its text.
use Rattle.std.specs.Prelude.{ℕ, ◌+◌, ◌/◌, ◌%◌, Bool, cond, List, [], ◌∷◌, leb}
use Rattle.lengths.specs.declared.Places.{Places}

-- its four digits, zeros in front included
abbrev pub four_digits : ℕ → List ℕ
four_digits m = (48 + m / 1000) ∷ (48 + m / 100 % 10) ∷ (48 + m / 10 % 10) ∷ (48 + m % 10) ∷ []

-- the place, or the next one where one more digit stands before it
abbrev pub behind : ℕ → Bool → ℕ
behind place more = cond more (place + 1) place

-- where the hundreds, the tens and the ones stand, each a place further if there is a digit before it
abbrev pub places_of : ℕ → Places
places_of m =
    let hundreds = behind 0 (leb 1000 m) in
    let tens = behind hundreds (leb 100 m) in
    record { hundreds = hundreds; tens = tens; ones = behind tens (leb 10 m) }
