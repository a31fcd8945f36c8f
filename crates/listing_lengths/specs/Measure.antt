-- What the walk that measures a file counts of its text, with no table: the lengths of its house lines, up to the limit
-- of a needed number.
use Rattle.std.specs.Prelude.{ℕ, List, length, Result, Ok, Err}
use Rattle.definitions.specs.Lists.{joined}
use Rattle.definitions.specs.Refusal.{needed}
use Rattle.definitions.specs.declared.Refusal.{Refusal}
use Rattle.definitions.specs.Row.{Term, Line}
use Rattle.definitions.specs.Table.{Outcome, refused, accepted, all_terms}
use Rattle.definitions.specs.House.{term_fields, house_line}
use Rattle.listing_lengths.specs.declared.Sizes.{Sizes}

-- the fields of terms
abbrev pub fields_length : ℕ → List Term → ℕ
fields_length first ts = needed (length (joined (term_fields first) ts))

-- of a file: its rows, their terms, and the length of their lines
abbrev pub sizes_of : ℕ → List Line → Sizes
sizes_of first ls = record { rows = length ls; terms = length (all_terms ls); lines = needed (length (joined (house_line first) ls)) }

abbrev pub file_sizes : ℕ → Outcome (List Line) → Outcome Sizes
file_sizes first (refused r) = refused r
file_sizes first (accepted ls) = accepted (sizes_of first ls)

-- 01's number and place, or the sizes
abbrev pub said_measured : Result Sizes Refusal → Outcome Sizes
said_measured (Ok z) = accepted z
said_measured (Err r) = refused r
