-- `measure_opb_lines` meets its contract: each turn counts one row (`Counting`, proofs/Counting.antt).
use Rattle.tables.specs.Lent.{table_of}
use Rattle.measures.proofs.Counting.{Counting}
use Rattle.measures.proofs.measure_opb_lines.Given as goal

abbrev pub invariant-loop-row : goal.invariant-loop-row
invariant-loop-row l = Counting l.mode (table_of l.t) l.text l.row-counter l.all
