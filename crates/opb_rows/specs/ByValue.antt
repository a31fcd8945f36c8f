-- What an answer is, for a refusal and for what a call found. `refusal` is 0 where the call accepted, else the
-- refusal's number, with its place; then every other number is 0. No refusal has the number 0
-- (proofs/ZeroAccepts.antt).
use Rattle.std.specs.Prelude.{ℕ, Bool, cond, pos}
use Rattle.definitions.specs.Table.{Outcome, refused, accepted}
use Rattle.definitions.specs.Evaluate.{Evaluated, constraint, goal}
use Rattle.opb_rows.specs.declared.evaluating.OpbValue.{OpbValue}

-- whether a constraint holds
abbrev pub truth : Bool → ℕ
truth b = cond b 1 0

abbrev pub found_answer : Evaluated → OpbValue
found_answer (constraint sum holds ones) = record { refusal = 0; place = 0; value = sum; holds = truth holds; ones = ones }
found_answer (goal value ones) = record { refusal = 0; place = 0; value = value; holds = 2; ones = ones }

abbrev pub value_answer : Outcome Evaluated → OpbValue
value_answer (refused r) = record { refusal = r.number; place = r.place; value = pos 0; holds = 0; ones = 0 }
value_answer (accepted e) = found_answer e
