-- What a callee answers, as C has it, is what the call answers.
use Rattle.std.specs.Prelude.{Result}
use Prim.Native.Nat.{ℕ}
use mathlib.Core.Path.{◌≡◌, ap, ◌∙◌}
use mathlib.Core.List.{List}
use Rattle.definitions.specs.Answers.{said_counted}
use Rattle.definitions.specs.Table.{Table}
use Rattle.definitions.specs.File.{first_at}
use Rattle.definitions.specs.declared.Refusal.{Refusal}
use Rattle.definitions.specs.declared.Totals.{Totals}
use Rattle.reader.specs.Reads.{Reads}
use Rattle.normaliser.specs.Normalises.{Normalises}
use Rattle.table_answers.specs.ByValue.{table_answer}
use Rattle.opb_tables.specs.Calls.{ReadsFile, NormalisesTable}
use Rattle.table_answers.specs.declared.OpbTable.{OpbTable}

pub read_told : (first : ℕ) (s : List ℕ) (t t' : Table) (r : OpbTable) (a : Result Totals Refusal) → Reads (first_at first) s t a t'
    → r ≡ table_answer (said_counted a) → ReadsFile first s t r t'
read_told first s t t' r a reads e = record { answer = e ∙ ap table_answer reads.answer; after = reads.after }

pub normal-told : (t o o' : Table) (r : OpbTable) (a : Result Totals Refusal) → Normalises t o a o'
    → r ≡ table_answer (said_counted a) → NormalisesTable t o r o'
normal-told t o o' r a normalises e = record { answer = e ∙ ap table_answer normalises.answer; after = normalises.after }
