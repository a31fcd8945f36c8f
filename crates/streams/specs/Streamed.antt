-- Which bytes are read and written, where a reader's and a writer's are known.
use Rattle.std.specs.Prelude.{ℕ, ◌≡◌, ◌<◌, ◌≤◌, Bool, false, List, [], length, take, leb, if◌then◌else◌, Option, None, Some}
use Rattle.std.specs.Io.KnownBytes.{Appends, Consumes, IsAtEnd}

-- n bytes were read into the front of the buffer; fewer than it holds only where the reader is at its end
pub record IsFilled (old : Option (List ℕ)) (new : Option (List ℕ)) (buffer : List ℕ) (n : ℕ) : Type 0 where
  pub within : n ≤ length buffer
  pub consumed : Consumes old new (take n buffer)
  pub ended : n < length buffer → IsAtEnd new

-- some bytes were read, which stand at the front of the buffer
pub record ConsumesFront (old : Option (List ℕ)) (new : Option (List ℕ)) (buffer : List ℕ) : Type 0 where
  pub count : ℕ
  pub within : count ≤ length buffer
  pub consumed : Consumes old new (take count buffer)

-- what is left behind `full` bytes of input: nothing, or more
abbrev pub IsBehind : Option (List ℕ) → ℕ → Option ℕ → Type 0
IsBehind None full input = Unit {0}
IsBehind (Some rest) full (Some n) = (n ≡ full) × (rest ≡ [])
IsBehind (Some rest) full None = 0 < length rest

-- the whole input stands at the front of the buffer; or it is longer than the buffer, which has its front
abbrev pub IsInput : Option (List ℕ) → List ℕ → Option ℕ → Type 0
IsInput None buffer input = Unit {0}
IsInput (Some all) buffer (Some n) = all ≡ take n buffer
IsInput (Some all) buffer None = (length buffer < length all) × (take (length buffer) all ≡ buffer)

-- some bytes from the front of a text were written, and not all
pub record AppendsFront (old : Option (List ℕ)) (new : Option (List ℕ)) (text : List ℕ) : Type 0 where
  pub count : ℕ
  pub within : count < length text
  pub appended : Appends old new (take count text)

-- what was put into an output lies within it
abbrev pub lies_within : Option ℕ → ℕ → Bool
lies_within (Some n) room = leb n room
lies_within None room = false

-- and is then this text, else none
abbrev pub put_text : Option ℕ → List ℕ → List ℕ
put_text (Some n) out = if leb n (length out) then take n out else []
put_text None out = []
