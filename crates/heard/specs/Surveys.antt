-- What the first walk over a block of signed numbers or `x` tokens answers.
use Rattle.std.specs.Prelude.{ℕ, Bool, List, map, Option, Some, None, Result, Ok, Err}
use Rattle.definitions.specs.Values.{Item, length_after}
use Rattle.definitions.specs.declared.Refusal.{Refusal}
use Rattle.settling.specs.Flat.{code_in, said_by, stop_of}

-- the first 20, 21 or 5, or the length
abbrev pub stopped_by : Option Refusal → ℕ → Result ℕ Refusal
stopped_by None n = Ok n
stopped_by (Some r) n = Err r

-- the answer of the first walk over items, on top of the length n
abbrev pub survey_of : Bool → ℕ → List Item → Result ℕ Refusal
survey_of named n is = stopped_by (stop_of named is) (length_after n (map code_in (said_by named is)))
