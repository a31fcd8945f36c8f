-- What each answer says: 01's number and values, as the definitions give them.
use Rattle.std.specs.Prelude.{ℕ, Result, Ok, Err}
use Rattle.definitions.specs.Reader.{Got, none, got}
use Rattle.definitions.specs.declared.Fault.{Fault}
use Rattle.literals.specs.declared.Lit.{Lit}

-- a literal's code
abbrev pub said_literal : Result (Lit × ℕ) Fault → Got ℕ
said_literal (Ok (l, n)) = got l.0 n
said_literal (Err e) = none e
