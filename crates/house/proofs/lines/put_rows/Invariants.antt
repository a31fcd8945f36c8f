-- `put_rows` meets its contract: each turn puts one row behind the others (`Putting`, proofs/Rows.antt).
use Rattle.tables.specs.Lent.{table_of}
use Rattle.house.proofs.Rows.{Putting}
use Rattle.house.proofs.lines.put_rows.Given as goal

abbrev pub invariant-loop-row : goal.invariant-loop-row
invariant-loop-row l = Putting (table_of l.t) l.rows l.first l.at l.initial.out l.row l.out l.end
