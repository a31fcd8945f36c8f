-- What the call promises: one answer, and one later content of the words that it was lent to change.
use Rattle.std.specs.Prelude.{ℕ, ◌≡◌, List}
use Rattle.definitions.specs.Values.{valuing, new_length, values_after, known_after}
use Rattle.opb_assignments.specs.ByValue.{length_answer}
use Rattle.opb_assignments.specs.declared.OpbLength.{OpbLength}

-- the block s of value lines on top of the length n, the values ws and the known words ks, which are ws' and ks' after
-- the call
pub record ReadsBlock (s : List ℕ) (n : ℕ) (ws ks : List ℕ) (r : OpbLength) (ws' ks' : List ℕ) : Type 0 where
  pub answer : r ≡ length_answer (new_length n (valuing s n ws ks))
  pub values : ws' ≡ values_after (valuing s n ws ks) ws
  pub known : ks' ≡ known_after (valuing s n ws ks) ks
