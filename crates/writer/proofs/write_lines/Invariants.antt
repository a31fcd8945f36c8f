-- `write_lines` meets its contract: each turn writes one row (`Lining`, proofs/Lining.antt).
use Rattle.tables.specs.Lent.{table_of}
use Rattle.writer.proofs.Lining.{Lining}
use Rattle.writer.proofs.write_lines.Given as goal

abbrev pub invariant-loop-row : goal.invariant-loop-row
invariant-loop-row l = Lining l.mode (table_of l.t) l.text l.initial.out l.row l.at l.out
