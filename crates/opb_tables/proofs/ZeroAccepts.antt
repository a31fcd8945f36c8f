-- For each call: `refusal` is 0 exactly where the call accepted.
use Prim.Native.Nat.{ℕ}
use mathlib.Core.Path.{◌≡◌, refl}
use mathlib.Core.List.{List}
use Rattle.definitions.specs.Row.{Line}
use Rattle.definitions.specs.Table.{Table, Outcome, refused, accepted, counted}
use Rattle.definitions.specs.Accepts.{number_of, Tells}
use Rattle.definitions.specs.File.{first_at, file, reading}
use Rattle.definitions.specs.Normal.{normalising}
use Rattle.laws.proofs.ZeroAccepts.{file-tells, reading-tells, normalising-tells}
use Rattle.table_answers.specs.ByValue.{table_answer}
use Rattle.opb_tables.specs.Calls.{count_answer, ReadsFile, NormalisesTable}
use Rattle.table_answers.specs.declared.OpbTable.{OpbTable}

number : (x : Outcome (List Line)) → (table_answer (counted x)).refusal ≡ number_of x
number (refused r) = refl
number (accepted ls) = refl

pub count-tells : (first : ℕ) (s : List ℕ) → Tells (count_answer first s).refusal (file (first_at first) s)
count-tells first s = rw (number (file (first_at first) s)) (file-tells (first_at first) s)

pub read-tells : (first : ℕ) (s : List ℕ) (t : Table) (r : OpbTable) (t' : Table) → ReadsFile first s t r t'
    → Tells r.refusal (reading (first_at first) s t)
read-tells first s t r t' c = rw (c.answer, number (reading (first_at first) s t)) (reading-tells (first_at first) s t)

pub normalise-tells : (t o : Table) (r : OpbTable) (o' : Table) → NormalisesTable t o r o' → Tells r.refusal (normalising t o)
normalise-tells t o r o' c = rw (c.answer, number (normalising t o)) (normalising-tells t o)
