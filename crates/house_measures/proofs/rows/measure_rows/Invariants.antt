-- `measure_rows` meets its contract: each turn counts one row (`Measures`, proofs/RowsWalk.antt).
use Rattle.tables.specs.Lent.{table_of}
use Rattle.house_measures.proofs.RowsWalk.{Measures}
use Rattle.house_measures.proofs.rows.measure_rows.Given as goal

abbrev pub invariant-loop-row : goal.invariant-loop-row
invariant-loop-row l = Measures (table_of l.t) l.rows l.first l.row l.all
