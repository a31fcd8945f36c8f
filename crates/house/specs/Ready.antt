-- What the second walk asks, since the first has accepted all rows and the whole text fits.
use Rattle.std.specs.Prelude.{ℕ, ◌+◌, ◌≤◌, ◌≡◌, true, List, ℤ, length}
use Rattle.definitions.specs.Lists.{joined}
use Rattle.definitions.specs.Refusal.{accept}
use Rattle.definitions.specs.Literal.{index_of, file_number}
use Rattle.definitions.specs.Row.{term, Line}
use Rattle.definitions.specs.Table.{Table, row_room, accepted, terms_on}
use Rattle.definitions.specs.declared.Entry.{Entry}
use Rattle.definitions.specs.Write.{is_accepted, numbered}
use Rattle.definitions.specs.House.{term_fields, house_line}
use Rattle.house_measures.specs.Lines.{line_on, lines_of}

-- a term whose variable has a file number
pub record TermReady (first : ℕ) (w : ℤ) (c at : ℕ) (o : List ℕ) : Type 0 where
  pub number : is_accepted (file_number first (index_of c)) ≡ true
  pub room : at + length (term_fields first (term w c)) ≤ length o

-- the terms of a row, from its part of the two columns
pub record TermsReady (first : ℕ) (ws : List ℤ) (cs : List ℕ) (at : ℕ) (o : List ℕ) : Type 0 where
  pub long : length ws ≡ length cs
  pub numbers : numbered first (terms_on ws cs) ≡ true
  pub room : at + length (joined (term_fields first) (terms_on ws cs)) ≤ length o

-- a row of a table with these two columns
pub record RowReady (first : ℕ) (ws : List ℤ) (cs : List ℕ) (e : Entry) (at : ℕ) (o : List ℕ) : Type 0 where
  pub line : Line
  pub is : line_on first ws cs e ≡ accept line
  pub room : at + length (house_line first line) ≤ length o

-- the first n rows of a table, which has as many
pub record RowsReady (first n : ℕ) (t : Table) (at : ℕ) (o : List ℕ) : Type 0 where
  pub within : n ≤ row_room t
  pub lines : List Line
  pub are : lines_of first n t ≡ accepted lines
  pub room : at + length (joined (house_line first) lines) ≤ length o
