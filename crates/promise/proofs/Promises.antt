-- Everything that a user relies on, in one file. Each promise has its sentence in plain words and a proof of one line,
-- which cites the work. What the words mean: crates/definitions/specs, and crates/document/specs for the OPB document.
use Prim.Native.Nat.{ℕ, ◌≤◌, ◌<◌}
use mathlib.Core.Path.{◌≡◌, sym, ◌∙◌}
use mathlib.Core.Logic.{◌⊎◌}
use mathlib.Core.Bool.{Bool, true}
use mathlib.Core.List.{List}
use lib.IntN.{ℤ}
use lib.ListN.{length}
use Rattle.definitions.specs.Limits.{file_limit}
use Rattle.definitions.specs.Refusal.{refusal}
use Rattle.definitions.specs.declared.Refusal.{Refusal}
use Rattle.definitions.specs.Row.{Line}
use Rattle.definitions.specs.Table.{Table, refused, accepted, entries, row_by_row}
use Rattle.definitions.specs.Write.{Item, written_in, writing}
use Rattle.definitions.specs.File.{file}
use Rattle.definitions.specs.Meaning.{Assignment, assigned, is_known}
use Rattle.definitions.specs.Values.{form_of, valuing, new_length, values_after, known_after}
use Rattle.definitions.specs.declared.Form.TheVariants.{SignedNumbers, XTokens}
use Rattle.definitions.specs.declared.Options.{Options}
use Rattle.definitions.specs.declared.Mode.{Mode}
use Rattle.definitions.proofs.KnownAnswers.{counted-known, length-known}
use Rattle.document.specs.DocumentWritten.{for_document, InOrder, WrittenDocument}
use Rattle.reader.specs.Reads.{Reads}
use Rattle.reader.proofs.parse_opb_data.Reads as parse-opb-data
use Rattle.writer.specs.Writes.{Writes}
use Rattle.writer.proofs.write_opb_lines.Reads as write-opb-lines
use Rattle.house.specs.ListsTable.{Lists}
use Rattle.house.proofs.list_table.Reads as list-table
use Rattle.normaliser.specs.Normalises.{Normalises}
use Rattle.normaliser.proofs.normalise.Reads as normalise
use Rattle.evaluator.proofs.evaluate.Reads as evaluate
use Rattle.evaluator.proofs.evaluate_known.Reads as evaluate-known
use Rattle.evaluator.proofs.judge.Reads as judge
use Rattle.assigned.specs.WordsSay.{looked}
use Rattle.values.specs.Reads.{ReadsValues}
use Rattle.values.proofs.read_values.Reads as read-values
use Rattle.tables.specs.Lent.{table_of}
use Rattle.promise.proofs.Lent.{mut_columns}

-- ---- What the code promises. `Post` is the contract that the prover makes of the source, over what a call is lent
-- (a), its answer (r) and what it leaves (s); the check of a crate proves that its code meets it.

-- Reading: answer and columns afterwards are those of `reading`. A refused call changes nothing; an accepted one
-- changes only the entries it counts, from the front.
pub reading-as-defined : (κs : _) (a : _) (r : _) (s : _) → parse-opb-data.Post κs a r s
    → Reads a.1.0 a.0.now (mut_columns a.1.1) r (mut_columns s.1.1)
reading-as-defined κs a r s p = p

-- Writing: answer and output afterwards are those of `writing`. A refused call changes no byte.
pub writing-as-defined : (κs : _) (a : _) (r : _) (s : _) → write-opb-lines.Post κs a r s
    → Writes a.1.1.0 (table_of a.0) a.1.0.now a.1.1.1.0.now r s.1.1.1.0.now
writing-as-defined κs a r s p = p

-- Listing a table's first rows: answer and output afterwards are those of `listing_table`. A refused call changes no
-- byte.
pub listing-as-defined : (κs : _) (a : _) (r : _) (s : _) → list-table.Post κs a r s
    → Lists a.1.1.0 a.1.0 (table_of a.0) a.1.1.1.0.now r s.1.1.1.0.now
listing-as-defined κs a r s p = p

-- Normalising: answer and columns afterwards are those of `normalising`.
pub normalising-as-defined : (κs : _) (a : _) (r : _) (s : _) → normalise.Post κs a r s
    → Normalises (table_of a.0) (mut_columns a.1) r (mut_columns s.1)
normalising-as-defined κs a r s p = p

-- Evaluating one row: sum and truth, or value, and the ones are those of `evaluating`.
pub evaluating-as-defined : (κs : _) (a : _) (r : _) (s : _) → evaluate.Post κs a r s
    → Rattle.verdicts.specs.Said.said_evaluated r
    ≡ Rattle.definitions.specs.Evaluate.evaluating (table_of a.0) a.1.0 a.1.1.0.now
evaluating-as-defined κs a r s p = p

-- The same where a second row says which variables are known: those of `evaluating_known`. A variable that is not known
-- is refused, never taken as false.
pub evaluating-known-as-defined : (κs : _) (a : _) (r : _) (s : _) → evaluate-known.Post κs a r s
    → Rattle.verdicts.specs.Said.said_evaluated r
    ≡ Rattle.definitions.specs.Evaluate.evaluating_known (table_of a.0) a.1.0 a.1.1.0.now a.1.1.1.0.now
evaluating-known-as-defined κs a r s p = p

-- A row that is judged has the sum and truth, or the value, that `evaluating_known` says; only the ones are left out.
pub judging-as-defined : (κs : _) (a : _) (r : _) (s : _) → judge.Post κs a r s
    → Rattle.verdicts.specs.Said.said_evaluated r
    ≡ Rattle.definitions.specs.Evaluate.judging (table_of a.0) a.1.0 a.1.1.0.now a.1.1.1.0.now
judging-as-defined κs a r s p = p

-- Value lines: the new length and both rows afterwards are those of `valuing`. A refused block changes no bit.
pub valuing-as-defined : (κs : _) (a : _) (r : _) (s : _) → read-values.Post κs a r s
    → ReadsValues a.0.now a.1.0 a.1.1.0.now a.1.1.1.0.now r s.1.1.0.now s.1.1.1.0.now
valuing-as-defined κs a r s p = p

-- One answer: two answers that a contract allows are equal, and so is what they leave.
pub reading-one : {o : Options} {f : List ℕ} {t t₁ t₂ : Table} (r₁ r₂ : _) → Reads o f t r₁ t₁ → Reads o f t r₂ t₂ → (r₁ ≡ r₂) × (t₁ ≡ t₂)
reading-one r₁ r₂ p q = (counted-known r₁ r₂ (p.answer ∙ sym q.answer), p.after ∙ sym q.after)

pub writing-one : {m : Mode} {t : Table} {c o o₁ o₂ : List ℕ} (r₁ r₂ : _) → Writes m t c o r₁ o₁ → Writes m t c o r₂ o₂
    → (r₁ ≡ r₂) × (o₁ ≡ o₂)
writing-one r₁ r₂ p q = (length-known r₁ r₂ (p.answer ∙ sym q.answer), p.after ∙ sym q.after)

pub normalising-one : {t o t₁ t₂ : Table} (r₁ r₂ : _) → Normalises t o r₁ t₁ → Normalises t o r₂ t₂ → (r₁ ≡ r₂) × (t₁ ≡ t₂)
normalising-one r₁ r₂ p q = (counted-known r₁ r₂ (p.answer ∙ sym q.answer), p.after ∙ sym q.after)

pub evaluating-one : (r₁ r₂ : _) → Rattle.verdicts.specs.Said.said_evaluated r₁ ≡ Rattle.verdicts.specs.Said.said_evaluated r₂ → r₁ ≡ r₂
evaluating-one = Rattle.verdicts.proofs.OneAnswer.said-evaluated

pub valuing-one : {b : List ℕ} {n : ℕ} {ws ks ws₁ ks₁ ws₂ ks₂ : List ℕ} (r₁ r₂ : _) → ReadsValues b n ws ks r₁ ws₁ ks₁
    → ReadsValues b n ws ks r₂ ws₂ ks₂ → (r₁ ≡ r₂) × (ws₁ ≡ ws₂) × (ks₁ ≡ ks₂)
valuing-one r₁ r₂ p q = (
  length-known r₁ r₂ (p.answer ∙ sym q.answer),
  p.values
      ∙ sym q.values,
  p.known ∙ sym q.known,
)

-- Every example that 01 marks P is answered so by whatever the contracts of reader and writer allow.
pub examples-answered : Rattle.promise.proofs.ExamplesInCode.EveryExampleAnswered
examples-answered = Rattle.promise.proofs.ExamplesInCode.every-example-through-code

-- ---- What the definitions are worth.

-- There and back: rows that the writer accepts, in either literal mode, are read back one for one, in order, and mean
-- what they meant (demand 3; the record says each part).
pub there_and_back : (m : Mode) (t : Table) (text : List ℕ) (room : ℕ) (s : List ℕ)
    → Rattle.definitions.specs.Write.writing m t text room ≡ accepted s → Rattle.definitions.proofs.ThereAndBack.ThereAndBack m t text s
there_and_back = Rattle.definitions.proofs.ThereAndBack.there_and_back

-- The whole file: of an accepted file every byte belongs to a statement or is a blank between two.
pub nothing-dropped : (o : Options) (s : List ℕ) (ls : List Line) → file o s ≡ accepted ls
    → (length s ≤ file_limit) × Rattle.definitions.proofs.WholeFile.WholeFile o s ls
nothing-dropped = Rattle.definitions.proofs.WholeFile.file-is-whole

-- A refused file is too long, or is refused at a place in it, behind whole statements.
pub refused-there : (o : Options) (s : List ℕ) (r : Refusal) → file o s ≡ refused r
    → ((file_limit < length s) × (r ≡ refusal 1 0)) ⊎ Rattle.definitions.proofs.WholeFile.BrokenFile o s r
refused-there = Rattle.definitions.proofs.WholeFile.file-is-broken

-- Same answers: walked one statement per call, a file gives what it gives when it is read at once.
pub same-answers : (o : Options) (s : List ℕ) → Rattle.definitions.specs.Stepping.steps_from o s 0 ≡ file o s
same-answers = Rattle.definitions.proofs.SameAnswers.same-answers

-- The OPB document's files are read, with the document's meaning.
pub document-read : (f : Rattle.document.specs.Document.File) → Rattle.document.specs.Document.WellFormed f
    → Rattle.document.specs.DocumentRead.WithinLimits f → Rattle.document.proofs.OpbDocument.DocumentRead f
document-read = Rattle.document.proofs.OpbDocument.document-read

-- What is written for the OPB document (first index 1, no-negated mode, its header first and its objective before the
-- constraints) lies in the document's grammar, but for one space before the `;` of an objective, and means what was
-- asked for.
pub document-written : (t : Table) (text : List ℕ) (room : ℕ) (is : List Item) (s : List ℕ)
    → row_by_row (written_in for_document t text) 0 (entries t) ≡ accepted is → writing for_document t text room ≡ accepted s
    → (o : InOrder is) → WrittenDocument o s
document-written = Rattle.document.proofs.WrittenDocument.written-document

-- A block of value lines that is accepted: what was known stays known, with its value.
pub known-stays : (b : List ℕ) (n : ℕ) (ws ks cs : List ℕ) → valuing b n ws ks ≡ accepted cs → (v : ℕ) → is_known ws ks v ≡ true
    → (is_known (values_after (valuing b n ws ks) ws) (known_after (valuing b n ws ks) ks) v ≡ true)
    × (assigned (values_after (valuing b n ws ks) ws) v ≡ assigned ws v)
known-stays = Rattle.values.proofs.Kept.known-stays

-- Signed numbers and `x` tokens may be read twice: the second time changes nothing more.
pub read_again : (b : List ℕ) (n : ℕ) (ws ks cs : List ℕ) → valuing b n ws ks ≡ accepted cs → (m : ℕ)
    → new_length n (valuing b n ws ks) ≡ accepted m → (form_of b ≡ SignedNumbers) ⊎ (form_of b ≡ XTokens)
    → Rattle.values.proofs.Kept.Unchanged b m (values_after (valuing b n ws ks) ws) (known_after (valuing b n ws ks) ks) cs
read_again = Rattle.values.proofs.Kept.read_again

-- A constraint that was evaluated over known variables has that sum, and holds or not, under every assignment that
-- agrees on them: what stays unknown does not matter.
pub known-suffices : (t : Table) (i : ℕ) (ws ks : List ℕ) (b : Assignment)
    → ((v : ℕ) → is_known (looked ws) (looked ks) v ≡ true → b v ≡ assigned (looked ws) v)
    → (sum : ℤ) (h : Bool) (ones : ℕ)
    → Rattle.definitions.specs.Evaluate.evaluating_known t i ws ks
    ≡ accepted (Rattle.definitions.specs.Evaluate.Evaluated.constraint sum h ones)
    → Rattle.evaluator.proofs.Meant.ConstraintMeant t i (is_known (looked ws) (looked ks)) b sum h
known-suffices = Rattle.evaluator.proofs.Agree.agree-constraint
