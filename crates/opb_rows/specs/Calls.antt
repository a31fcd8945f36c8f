-- What each call promises: one answer, of a row of the table t.
use Rattle.std.specs.Prelude.{ℕ, List}
use Rattle.definitions.specs.Table.{Table}
use Rattle.definitions.specs.Evaluate.{evaluating, evaluating_known, judging}
use Rattle.opb_rows.specs.ByValue.{value_answer}
use Rattle.opb_rows.specs.declared.evaluating.OpbValue.{OpbValue}

-- under the assignment that the words are
abbrev pub evaluate_answer : Table → ℕ → List ℕ → OpbValue
evaluate_answer t row words = value_answer (evaluating t row words)

-- the same where a second row of words says which variables are known
abbrev pub evaluate_known_answer : Table → ℕ → List ℕ → List ℕ → OpbValue
evaluate_known_answer t row values known = value_answer (evaluating_known t row values known)

-- and the same without the ones
abbrev pub judge_answer : Table → ℕ → List ℕ → List ℕ → OpbValue
judge_answer t row values known = value_answer (judging t row values known)
