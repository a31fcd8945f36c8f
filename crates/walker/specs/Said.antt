-- What each case of a step's answer says: 01's number and values, as the definitions give them; and what of a line is
-- told.
use Rattle.std.specs.Prelude.{Option, Some, None, Result, Ok, Err}
use Rattle.definitions.specs.Row.{Line}
use Rattle.definitions.specs.Stepping.{Stepped, ended, stopped, stepped}
use Rattle.definitions.specs.declared.Entry.{Entry}
use Rattle.definitions.specs.declared.Refusal.{Refusal}
use Rattle.columns.specs.Entries.{entry_alone}
use Rattle.walker.specs.declared.steps.Step.{Step}

abbrev pub said_stepped : Result (Option Step) Refusal → Stepped Entry
said_stepped (Ok None) = ended
said_stepped (Ok (Some s)) = stepped s.entry s.next
said_stepped (Err r) = stopped r

-- a line's entry in a table's columns, its first term apart
abbrev pub brief_stepped : Stepped Line → Stepped Entry
brief_stepped ended = ended
brief_stepped (stopped r) = stopped r
brief_stepped (stepped l n) = stepped (entry_alone l) n
