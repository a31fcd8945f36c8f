-- What writing rows and reading the written part again answers and leaves; and that what came back means what went out.
use Rattle.std.specs.Prelude.{ℕ, ◌≡◌, List, length, Result}
use Rattle.definitions.specs.Lists.{over}
use Rattle.definitions.specs.Row.{Line}
use Rattle.definitions.specs.Table.{Table, Outcome, refused, accepted, after}
use Rattle.definitions.specs.File.{reading}
use Rattle.definitions.specs.Write.{writing}
use Rattle.definitions.specs.Back.{options_of}
use Rattle.definitions.proofs.ThereAndBack.{ThereAndBack}
use Rattle.definitions.specs.declared.Mode.{Mode}
use Rattle.foreseen.specs.declared.Back.{Back}
use Rattle.foreseen.specs.declared.NotBack.{NotBack}
use Rattle.foreseen.specs.Returning.{said_returned, returning}

-- what the output holds: the text if it came back, and else what it held
abbrev pub kept_by : List ℕ → List ℕ → Outcome (List Line) → List ℕ
kept_by s o (refused r) = o
kept_by s o (accepted ls) = over s o

abbrev pub output_kept : Mode → Table → Outcome (List ℕ) → List ℕ → List ℕ
output_kept m new (refused r) o = o
output_kept m new (accepted s) o = kept_by s o (reading (options_of m) s new)

abbrev pub tables_after : Mode → Table → Outcome (List ℕ) → Table
tables_after m new (refused r) = new
tables_after m new (accepted s) = after (reading (options_of m) s new) new

pub record Returns (m : Mode) (t : Table) (text o : List ℕ) (new : Table) (r : Result Back NotBack) (o' : List ℕ) (new' : Table) : Type 0 where
  pub answer : said_returned r ≡ returning m new (writing m t text (length o))
  pub output : o' ≡ output_kept m new (writing m t text (length o)) o
  pub tables : new' ≡ tables_after m new (writing m t text (length o))
  -- what was written comes back, one for one, and means what it meant
  pub kept : (s : List ℕ) → writing m t text (length o) ≡ accepted s → ThereAndBack m t text s
