-- What `read_values` answered is what the call answers, whichever case of the answer it was.
use Rattle.std.specs.Prelude.{Result}
use Prim.Native.Nat.{ℕ}
use mathlib.Core.Path.{◌≡◌, sym, ap, ◌∙◌}
use mathlib.Core.List.{List}
use Rattle.definitions.specs.declared.Refusal.{Refusal}
use Rattle.definitions.specs.Answers.{said_length}
use Rattle.values.specs.Reads.{ReadsValues}
use Rattle.opb_assignments.specs.ByValue.{length_answer}
use Rattle.opb_assignments.specs.Calls.{ReadsBlock}
use Rattle.opb_assignments.specs.declared.OpbLength.{OpbLength}

pub values-told : (s : List ℕ) (n : ℕ) (ws ks ws' ks' : List ℕ) (r : OpbLength) (a b : Result ℕ Refusal) → ReadsValues s n ws ks a ws' ks'
    → a ≡ b → r ≡ length_answer (said_length b) → ReadsBlock s n ws ks r ws' ks'
values-told s n ws ks ws' ks' r a b reads q e =
    record { answer = e ∙ ap length_answer (sym (ap said_length q) ∙ reads.answer); values = reads.values; known = reads.known }
