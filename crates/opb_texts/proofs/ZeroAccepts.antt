-- For each call: `refusal` is 0 exactly where the call accepted.
use Prim.Native.Nat.{ℕ}
use mathlib.Core.Path.{◌≡◌, refl}
use mathlib.Core.List.{List}
use lib.ListN.{length}
use Rattle.definitions.specs.Table.{Table, Outcome, refused, accepted}
use Rattle.definitions.specs.Accepts.{number_of, Tells}
use Rattle.definitions.specs.Write.{writing}
use Rattle.definitions.specs.House.{listing_table}
use Rattle.laws.proofs.ZeroAccepts.{writing-tells, listing-tells}
use Rattle.opb_texts.specs.ByValue.{text_answer}
use Rattle.opb_texts.specs.Calls.{mode_at, WritesLines, ListsTable}
use Rattle.opb_texts.specs.declared.OpbText.{OpbText}

number : (x : Outcome (List ℕ)) → (text_answer x).refusal ≡ number_of x
number (refused r) = refl
number (accepted s) = refl

pub write-tells : (first plain : ℕ) (t : Table) (text o : List ℕ) (r : OpbText) (o' : List ℕ) → WritesLines first plain t text o r o'
    → Tells r.refusal (writing (mode_at first plain) t text (length o))
write-tells first plain t text o r o' c =
    rw (c.answer, number (writing (mode_at first plain) t text (length o))) (writing-tells (mode_at first plain) t text (length o))

pub list_tells : (first rows : ℕ) (t : Table) (o : List ℕ) (r : OpbText) (o' : List ℕ) → ListsTable first rows t o r o'
    → Tells r.refusal (listing_table first rows t (length o))
list_tells first rows t o r o' c = rw (c.answer, number (listing_table first rows t (length o))) (listing-tells first rows t (length o))
