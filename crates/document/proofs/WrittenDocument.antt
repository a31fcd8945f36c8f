-- Does what is written lie in the OPB document? Take rows that the writer accepts, with first index 1 in no-negated
-- mode, in the document's order: its header comment, comments, at most one objective, comments and constraints. Without
-- an objective, what is written is a file of the document's own linear grammar. With one it lacks a single space: the
-- document asks for a space before the `;` of an objective, and the writer, as the Rust, prints none. Either way
-- constraints and objective mean what was asked for, for every assignment of the document's variables. (An objective
-- without terms is left out: it is written `min:;`, and the document's sums have one or more terms. specs/Document.antt
-- has the document's grammar and meaning, specs/DocumentWritten.antt the words for what is written, part by part,
-- proofs/WrittenSample.antt one such table.)
use Prim.Native.Nat.{ℕ}
use mathlib.Core.Path.{◌≡◌, ◌∙◌}
use mathlib.Core.List.{List}
use Rattle.definitions.specs.Lists.{AllOf}
use Rattle.definitions.specs.Table.{Table, accepted, entries, row_by_row}
use Rattle.definitions.specs.Write.{Item, written_in, writing}
use Rattle.document.specs.Document.{File, WellFormed, file_text}
use Rattle.document.specs.DocumentWritten.{for_document, NoGoal, InOrder, WrittenDocument}
use Rattle.definitions.specs.declared.Mode.{Mode}
use Rattle.definitions.proofs.Asked.{asked-writable, asked-text}
use Rattle.document.proofs.DocumentWrittenLines.{goal-not-in-document}
use Rattle.document.proofs.DocumentWrittenFile.{in-document}

-- what is written from items in the document's order lies in its grammar, or lacks one space
pub written-document : (t : Table) (text : List ℕ) (room : ℕ) (is : List Item) (s : List ℕ)
    → row_by_row (written_in for_document t text) 0 (entries t) ≡ accepted is
    → writing for_document t text room ≡ accepted s
    → (o : InOrder is) → WrittenDocument o s
written-document t text room is s a e o =
    rw (asked-text for_document t text is a room s e) (in-document o (asked-writable for_document t text is a))

-- that space is always amiss: what is written with an objective in it, with or without terms, in any order and mode, is
-- the text of no file of the document
pub objective-outside : (m : Mode) (t : Table) (text : List ℕ) (room : ℕ) (is : List Item) (s : List ℕ)
    → row_by_row (written_in m t text) 0 (entries t) ≡ accepted is
    → writing m t text room ≡ accepted s
    → (AllOf NoGoal is → ⊥)
    → (f : File) → WellFormed f → file_text f ≡ s → ⊥
objective-outside m t text room is s a e n f g q =
    goal-not-in-document m is (asked-writable m t text is a) n f g (q ∙ asked-text m t text is a room s e)
