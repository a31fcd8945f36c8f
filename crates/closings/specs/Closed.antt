-- What is kept of a row by what closes it: its entry, with its terms counted, and the bytes behind the sum.
use Rattle.std.specs.Prelude.{ℕ, Bool, cond, ◌&&◌, leb, pos, Result, Ok, Err}
use Rattle.definitions.specs.Limits.{weight_limit, in_i64}
use Rattle.definitions.specs.Refusal.{fault}
use Rattle.definitions.specs.Reader.{Got, none, got}
use Rattle.definitions.specs.Table.{kind_number}
use Rattle.definitions.specs.Text.{Comparison, kind_of, bound_of}
use Rattle.definitions.specs.declared.Fault.{Fault}
use Rattle.definitions.specs.declared.Entry.{Entry}
use Rattle.definitions.specs.declared.Kind.TheVariants.{Objective as objective}
use Rattle.definitions.specs.declared.Options.{Options}
use Rattle.columns.specs.Entries.{entry_of}

abbrev pub said_row : Result (Entry × ℕ) Fault → Got Entry
said_row (Ok (x, m)) = got x m
said_row (Err e) = none e

-- what closes a sum of so many terms and of the size, as `finished` says: 8 where the size is above M or the bound
-- beyond 64 bits
abbrev pub closed_by : Options → ℕ → ℕ → Got Comparison → Got Entry
closed_by o terms size (none e) = none e
closed_by o terms size (got c m) =
    cond (leb size weight_limit && in_i64 (bound_of c.operator c.number))
    (got (entry_of (kind_number (kind_of c.operator)) 0 terms (bound_of c.operator c.number)) m)
    (none (fault 8))

abbrev pub ended_by : Options → ℕ → ℕ → Got Bool → Got Entry
ended_by o terms size (none e) = none e
ended_by o terms size (got c m) =
    cond (leb size weight_limit) (got (entry_of (kind_number objective) 0 terms (pos 0)) m) (none (fault 8))
