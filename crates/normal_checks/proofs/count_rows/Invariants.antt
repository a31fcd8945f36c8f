-- `normal_checks::count_rows` meets its contract. The loop's invariant: the rows before this one passed, with the terms
-- that they need (`Counts`, proofs/Checks.antt). Assumes nothing.
use Rattle.tables.specs.Lent.{table_of}
use Rattle.normal_checks.proofs.Checks.{Counts}
use Rattle.normal_checks.proofs.count_rows.Given as goal

abbrev pub invariant-loop-row : goal.invariant-loop-row
invariant-loop-row l = Counts (table_of l.t) l.row-counter l.terms
