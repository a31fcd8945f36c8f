-- What does each case of the answers say that several calls share? 01's number and place, or what the call found.
use Rattle.std.specs.Prelude.{ℕ, Result, Ok, Err}
use Rattle.definitions.specs.Refusal.{Refusal}
use Rattle.definitions.specs.Table.{Outcome, refused, accepted}
use Rattle.definitions.specs.declared.Totals.{Totals}

abbrev pub said_counted : Result Totals Refusal → Outcome Totals
said_counted (Ok n) = accepted n
said_counted (Err r) = refused r

abbrev pub said_length : Result ℕ Refusal → Outcome ℕ
said_length (Err r) = refused r
said_length (Ok n) = accepted n
