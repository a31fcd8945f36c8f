-- What a callee answers, as C has it, is what the call answers.
use Rattle.std.specs.Prelude.{Result}
use Prim.Native.Nat.{ℕ}
use mathlib.Core.Path.{◌≡◌, ap, ◌∙◌}
use mathlib.Core.List.{List}
use Rattle.definitions.specs.declared.Refusal.{Refusal}
use Rattle.definitions.specs.Answers.{said_length}
use Rattle.definitions.specs.Table.{Table}
use Rattle.writer.specs.Writes.{Writes}
use Rattle.house.specs.ListsTable.{Lists}
use Rattle.opb_texts.specs.ByValue.{length_answer}
use Rattle.opb_texts.specs.Calls.{mode_at, WritesLines, ListsTable}
use Rattle.opb_texts.specs.declared.OpbText.{OpbText}

pub write-told : (first plain : ℕ) (t : Table) (text o o' : List ℕ) (r : OpbText) (a : Result ℕ Refusal)
    → Writes (mode_at first plain) t text o a o' → r ≡ length_answer (said_length a)
    → WritesLines first plain t text o r o'
write-told first plain t text o o' r a writes e =
    record { answer = e ∙ ap length_answer writes.answer; after = writes.after }

pub list-told : (first rows : ℕ) (t : Table) (o o' : List ℕ) (r : OpbText) (a : Result ℕ Refusal)
    → Lists first rows t o a o' → r ≡ length_answer (said_length a) → ListsTable first rows t o r o'
list-told first rows t o o' r a lists e = record { answer = e ∙ ap length_answer lists.answer; after = lists.after }
