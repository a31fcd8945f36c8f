-- The sum of terms under the words ws, in the order of the evaluator's refusals: "11, 8 for absolute weights, 12".
use Rattle.std.specs.Prelude.{ℕ, ◌+◌, min, Bool, cond, List, leb, ℤ, length, take, drop, Option, Result, Ok, Err}
use Rattle.definitions.specs.Limits.{weight_limit}
use Rattle.definitions.specs.declared.Fault.{Fault}
use Rattle.definitions.specs.Refusal.{Checked, refuse, accept}
use Rattle.definitions.specs.Row.{Term, sizes}
use Rattle.definitions.specs.Table.{indexed, terms_on}
use Rattle.definitions.specs.Meaning.{Assignment, sum_of, assigned}
use Rattle.definitions.specs.Evaluate.{covered}
use Rattle.assigned.specs.WordsSay.{has_by}

-- what an answer says
abbrev pub said_summed : Result ℤ Fault → Checked ℤ
said_summed (Err e) = refuse e.number
said_summed (Ok z) = accept z

-- terms that lie in their columns
abbrev pub summed_over : (ℕ → Bool) → Assignment → List Term → Checked ℤ
summed_over has a ts =
    cond (indexed ts)
    (cond (leb (sizes ts) weight_limit) (cond (covered has ts) (accept (sum_of a ts)) (refuse 12)) (refuse 8))
    (refuse 11)

-- `count` terms from `first` on in two columns
abbrev pub summed_at : ℕ → ℕ → List ℤ → List ℕ → Option (List ℕ) → List ℕ → Checked ℤ
summed_at first count weights literals known ws =
    cond (leb (first + count) (min (length weights) (length literals)))
    (summed_over (has_by known ws) (assigned ws) (take count (drop first (terms_on weights literals))))
    (refuse 11)
