-- What is found for a row of a kind with this sum and bound. proofs/VerdictLaws.antt ties it to the definition over the
-- row.
use Rattle.std.specs.Prelude.{ℕ, cond, ℤ, ◌+ℤ◌}
use Rattle.definitions.specs.Limits.{in_i64}
use Rattle.definitions.specs.Refusal.{Checked, refuse, accept}
use Rattle.definitions.specs.declared.Kind.{Kind}
use Rattle.definitions.specs.declared.Kind.TheVariants.{AtLeast as at_least, AtMost as at_most, Equal as equal, Objective as objective}
use Rattle.definitions.specs.Meaning.{holds_by}
use Rattle.definitions.specs.Evaluate.{Evaluated, constraint, goal}

-- an objective's value, or 8
abbrev pub valued : ℤ → ℕ → Checked Evaluated
valued value ones = cond (in_i64 value) (accept (goal value ones)) (refuse 8)

abbrev pub verdict_of : Kind → ℤ → ℤ → ℕ → Checked Evaluated
verdict_of at_least sum bound ones = accept (constraint sum (holds_by at_least sum bound) ones)
verdict_of at_most sum bound ones = accept (constraint sum (holds_by at_most sum bound) ones)
verdict_of equal sum bound ones = accept (constraint sum (holds_by equal sum bound) ones)
verdict_of objective sum bound ones = valued (sum +ℤ bound) ones
