-- What each answer says: 01's number and values, as the definitions give them.
use Rattle.std.specs.Prelude.{ℕ, Bool, Option, Some, None, Result, Ok, Err}
use Rattle.definitions.specs.Refusal.{fault}
use Rattle.definitions.specs.Reader.{Got, none, got}
use Rattle.definitions.specs.Text.{Comparison, comparison_of}
use Rattle.definitions.specs.declared.Fault.{Fault}
use Rattle.frames.specs.declared.closing.Comparison.{Comparison as Compared}

-- 7: "no ending"
abbrev pub said_ending : Option (Bool × ℕ) → Got Bool
said_ending (Some (e, n)) = got e n
said_ending None = none (fault 7)

abbrev pub said_comparison : Result Compared Fault → Got Comparison
said_comparison (Ok c) = got (comparison_of c.operator c.number c.semicolon) c.taken
said_comparison (Err e) = none e
