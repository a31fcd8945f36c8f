-- What an answer is, for a refusal and for the new length. `refusal` is 0 where the call accepted, else the refusal's
-- number, with its place; then the length is 0. No refusal has the number 0 (proofs/ZeroAccepts.antt).
use Rattle.std.specs.Prelude.{ℕ}
use Rattle.definitions.specs.Table.{Outcome, refused, accepted}
use Rattle.opb_assignments.specs.declared.OpbLength.{OpbLength}

abbrev pub length_answer : Outcome ℕ → OpbLength
length_answer (refused r) = record { refusal = r.number; place = r.place; length = 0 }
length_answer (accepted n) = record { refusal = 0; place = 0; length = n }
