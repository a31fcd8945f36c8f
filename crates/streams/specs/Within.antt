-- A count of bytes lies within the buffer that it was counted in.
use Rattle.std.specs.Prelude.{ℕ, ◌≤◌, Bool, true, false, ◌≡◌, Option, None, Some}

-- bytes that were read
abbrev pub InputWithin : Option ℕ → ℕ → Type 0
InputWithin (Some n) room = n ≤ room
InputWithin None room = Unit {0}

-- bytes that were put are printed only where they lie within the output
abbrev pub PrintedWithin : Option ℕ → ℕ → Bool → Type 0
PrintedWithin (Some n) room printed = printed ≡ true → n ≤ room
PrintedWithin None room printed = printed ≡ false
