-- `refusal` is 0 exactly where the call accepted.
use Prim.Native.Nat.{ℕ}
use mathlib.Core.Path.{◌≡◌, refl}
use mathlib.Core.List.{List}
use Rattle.definitions.specs.Table.{Outcome, refused, accepted}
use Rattle.definitions.specs.Accepts.{number_of, Tells}
use Rattle.definitions.specs.Values.{valuing, new_length}
use Rattle.laws.proofs.ZeroAccepts.{valuing-tells}
use Rattle.opb_assignments.specs.ByValue.{length_answer}
use Rattle.opb_assignments.specs.Calls.{ReadsBlock}
use Rattle.opb_assignments.specs.declared.OpbLength.{OpbLength}

number : (n : ℕ) (x : Outcome (List ℕ)) → (length_answer (new_length n x)).refusal ≡ number_of x
number n (refused r) = refl
number n (accepted cs) = refl

pub values-tells : (s : List ℕ) (n : ℕ) (ws ks : List ℕ) (r : OpbLength) (ws' ks' : List ℕ) → ReadsBlock s n ws ks r ws' ks'
    → Tells r.refusal (valuing s n ws ks)
values-tells s n ws ks r ws' ks' c = rw (c.answer, number n (valuing s n ws ks)) (valuing-tells s n ws ks)
