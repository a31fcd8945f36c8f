-- What an answer is, for a refusal and for a text. `refusal` is 0 where the call accepted, else the refusal's number,
-- with its place; then the length is 0. No refusal has the number 0 (proofs/ZeroAccepts.antt).
use Rattle.std.specs.Prelude.{ℕ, List}
use Rattle.definitions.specs.Table.{Outcome, refused, accepted}
use Rattle.definitions.specs.Write.{length_of}
use Rattle.opb_texts.specs.declared.OpbText.{OpbText}

abbrev pub length_answer : Outcome ℕ → OpbText
length_answer (refused r) = record { refusal = r.number; place = r.place; length = 0 }
length_answer (accepted n) = record { refusal = 0; place = 0; length = n }

abbrev pub text_answer : Outcome (List ℕ) → OpbText
text_answer x = length_answer (length_of x)
