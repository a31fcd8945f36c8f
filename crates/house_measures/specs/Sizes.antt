-- What the first walk counts: the terms of a row and the length of its line, up to the limit of a needed number.
use Rattle.std.specs.Prelude.{ℕ, cond, List, length, Option, Some, None, Result, Ok, Err}
use Rattle.definitions.specs.Lists.{joined}
use Rattle.definitions.specs.declared.Refusal.{Refusal}
use Rattle.definitions.specs.declared.Fault.{Fault}
use Rattle.definitions.specs.Refusal.{needed, Checked, refuse, accept}
use Rattle.definitions.specs.Row.{Term, Line, terms_of}
use Rattle.definitions.specs.Table.{Outcome, refused, accepted, all_terms}
use Rattle.definitions.specs.Write.{numbered}
use Rattle.definitions.specs.House.{term_fields, house_line}
use Rattle.house_measures.specs.declared.rows.Size.{Size}

-- ---- of the terms of a row

abbrev pub terms_length : ℕ → List Term → Checked ℕ
terms_length first ts = cond (numbered first ts) (accept (needed (length (joined (term_fields first) ts)))) (refuse 5)

abbrev pub said_terms_length : Option ℕ → Checked ℕ
said_terms_length (Some n) = accept n
said_terms_length None = refuse 5

-- ---- of one row

abbrev pub size_of : ℕ → Line → Size
size_of first l = record { terms = length (terms_of l); length = needed (length (house_line first l)) }

abbrev pub size_in : ℕ → Checked Line → Checked Size
size_in first (refuse n) = refuse n
size_in first (accept l) = accept (size_of first l)

abbrev pub said_size : Result Size Fault → Checked Size
said_size (Ok s) = accept s
said_size (Err e) = refuse e.number

-- ---- of all rows

pub record Sizes : Type 0 where
  pub rows : ℕ
  pub all : Size

abbrev pub sizes_of : ℕ → List Line → Sizes
sizes_of first ls = record {
  rows = length ls;
  all = record {
    terms = needed (length (all_terms ls));
    length = needed
        (length (joined (house_line first) ls));
  };
}

abbrev pub sizes_in : ℕ → Outcome (List Line) → Outcome Sizes
sizes_in first (refused r) = refused r
sizes_in first (accepted ls) = accepted (sizes_of first ls)

abbrev pub said_measured : Result (ℕ × Size) Refusal → Outcome Sizes
said_measured (Ok p) = accepted (record { rows = p.0; all = p.1 })
said_measured (Err r) = refused r
