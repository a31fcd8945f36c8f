-- What is found for a row of a table, where the number of ones is told. proofs/ ties it to the definitions.
use Rattle.std.specs.Prelude.{ℕ, List, [], ℤ, Option}
use Rattle.definitions.specs.Refusal.{Checked}
use Rattle.definitions.specs.Table.{Table, table, Outcome, line_in, and_then}
use Rattle.definitions.specs.declared.Entry.{Entry}
use Rattle.definitions.specs.Meaning.{assigned}
use Rattle.definitions.specs.Evaluate.{Evaluated, found_in, evaluating_by}
use Rattle.assigned.specs.WordsSay.{has_by}

-- an entry of a table with these two columns of terms
abbrev pub found_at : Entry → List ℤ → List ℕ → Option (List ℕ) → List ℕ → ℕ → Checked Evaluated
found_at e weights literals known ws ones =
    and_then (line_in (table [] [] [] [] weights literals) e) (found_in (has_by known ws) (assigned ws) ones)

-- a row of a table
abbrev pub evaluating_of : Table → ℕ → Option (List ℕ) → List ℕ → ℕ → Outcome Evaluated
evaluating_of t i known ws ones = evaluating_by (has_by known ws) (assigned ws) ones t i
