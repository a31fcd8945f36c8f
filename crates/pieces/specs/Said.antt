-- What each case of the answers says: 01's number and values, as the definitions give them.
use Rattle.std.specs.Prelude.{Option, Some, None, Result, Ok, Err}
use Rattle.definitions.specs.declared.Fault.{Fault}
use Rattle.definitions.specs.Refusal.{fault_at}
use Rattle.definitions.specs.Reader.{Got, none, got}
use Rattle.definitions.specs.Walk.{Step, stop, bad, item}
use Rattle.definitions.specs.Row.{Term, term}
use Rattle.pieces.specs.declared.term.Term.{Term as TermRead}

abbrev pub said_term : Result TermRead Fault → Got Term
said_term (Ok t) = got (term t.weight t.literal.0) t.taken
said_term (Err e) = none e

-- no term here: a digit or sign does not stand there
abbrev pub said_next : Result (Option TermRead) Fault → Step Term
said_next (Ok (Some t)) = item (term t.weight t.literal.0) t.taken
said_next (Ok None) = stop
said_next (Err e) = bad (fault_at 0 e)
