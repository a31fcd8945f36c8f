-- `normaliser::fill::fill_rows` meets its contract. The loop's invariant: the rows before i are filled, with their
-- terms (`Filling`, proofs/Fills.antt). Assumes nothing.
use Rattle.definitions.specs.Table.{table}
use Rattle.tables.specs.Lent.{table_of}
use Rattle.normaliser.proofs.Fills.{Filling}
use Rattle.normaliser.proofs.fill.fill_rows.Given as goal

abbrev pub invariant-loop-i : goal.invariant-loop-i
invariant-loop-i l =
    Filling (table_of l.t)
    (table l.initial.outkinds l.initial.outfirsts l.initial.outcounts l.initial.outbounds l.initial.outweights l.initial.outliterals) l.i l.term
    (table l.outkinds l.outfirsts l.outcounts l.outbounds l.outweights l.outliterals)
