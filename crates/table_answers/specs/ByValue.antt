-- What an answer is, for a refusal and for what a call found. `refusal` is 0 where the call accepted, else the
-- refusal's number, with its place; then every other number is 0. No refusal has the number 0
-- (opb_tables/proofs/ZeroAccepts.antt).
use Rattle.definitions.specs.Table.{Outcome, refused, accepted}
use Rattle.definitions.specs.declared.Totals.{Totals}
use Rattle.table_answers.specs.declared.OpbTable.{OpbTable}

abbrev pub table_answer : Outcome Totals → OpbTable
table_answer (refused r) = record { refusal = r.number; place = r.place; rows = 0; terms = 0 }
table_answer (accepted n) = record { refusal = 0; place = 0; rows = n.rows; terms = n.terms }
