-- What each case of the check of one row says: 01's number, or the count of terms.
use Rattle.std.specs.Prelude.{ℕ, Result, Ok, Err}
use Rattle.definitions.specs.declared.Fault.{Fault}
use Rattle.definitions.specs.Refusal.{Checked, refuse, accept}

abbrev pub said_row : Result ℕ Fault → Checked ℕ
said_row (Ok n) = accept n
said_row (Err e) = refuse e.number
