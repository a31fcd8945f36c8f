-- For each call: `refusal` is 0 exactly where the call accepted.
use Prim.Native.Nat.{ℕ}
use mathlib.Core.Path.{◌≡◌, refl}
use mathlib.Core.List.{List}
use Rattle.definitions.specs.Table.{Table, Outcome, refused, accepted}
use Rattle.definitions.specs.Accepts.{number_of, Tells}
use Rattle.definitions.specs.Evaluate.{Evaluated, constraint, goal, evaluating, evaluating_known, judging}
use Rattle.laws.proofs.ZeroAccepts.{evaluating-tells, evaluating-known-tells, judging-tells}
use Rattle.opb_rows.specs.ByValue.{value_answer}
use Rattle.opb_rows.specs.Calls.{evaluate_answer, evaluate_known_answer, judge_answer}

number : (x : Outcome Evaluated) → (value_answer x).refusal ≡ number_of x
number (refused r) = refl
number (accepted (constraint sum holds ones)) = refl
number (accepted (goal value ones)) = refl

pub evaluate-tells : (t : Table) (row : ℕ) (words : List ℕ) → Tells (evaluate_answer t row words).refusal (evaluating t row words)
evaluate-tells t row words = rw (number (evaluating t row words)) (evaluating-tells t row words)

pub evaluate-known-tells : (t : Table) (row : ℕ) (values known : List ℕ)
    → Tells (evaluate_known_answer t row values known).refusal (evaluating_known t row values known)
evaluate-known-tells t row values known = rw (number (evaluating_known t row values known)) (evaluating-known-tells t row values known)

pub judge-tells : (t : Table) (row : ℕ) (values known : List ℕ)
    → Tells (judge_answer t row values known).refusal (judging t row values known)
judge-tells t row values known = rw (number (judging t row values known)) (judging-tells t row values known)
