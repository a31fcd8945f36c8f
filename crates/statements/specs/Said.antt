-- What each case of the answers says: 01's number and values, as the definitions give them.
use Rattle.std.specs.Prelude.{Option, Some, None, Result, Ok, Err}
use Rattle.definitions.specs.Walk.{Step, stop, bad, item}
use Rattle.definitions.specs.declared.Entry.{Entry}
use Rattle.definitions.specs.declared.Refusal.{Refusal}
use Rattle.statements.specs.declared.row.Line.{Line}

abbrev pub said_statement : Result (Option Line) Refusal → Step Entry
said_statement (Ok None) = stop
said_statement (Ok (Some l)) = item l.entry l.taken
said_statement (Err r) = bad r
