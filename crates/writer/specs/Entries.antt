-- One row of the table in the code's words, comments too: the text of its line, and what writing it asks.
use Rattle.std.specs.Prelude.{ℕ, ◌+◌, ◌≤◌, ◌≡◌, List, [], ◌∷◌, length}
use Rattle.definitions.specs.Bytes.{bytes}
use Rattle.definitions.specs.Refusal.{Checked, refuse, accept}
use Rattle.definitions.specs.Table.{Table}
use Rattle.definitions.specs.declared.Entry.{Entry}
use Rattle.definitions.specs.Write.{Item, item_text, written_in}
use Rattle.definitions.specs.declared.Mode.{Mode}

-- the line of a comment, piece by piece
abbrev pub remark_pieces : List ℕ → List (List ℕ)
remark_pieces t = bytes "* " ∷ t ∷ bytes "\n" ∷ []

abbrev pub text_from : Mode → Checked Item → List ℕ
text_from m (refuse n) = []
text_from m (accept i) = item_text m i

abbrev pub entry_text : Mode → Table → List ℕ → Entry → List ℕ
entry_text m t text e = text_from m (written_in m t text e)

pub record EntryReady (m : Mode) (t : Table) (text : List ℕ) (e : Entry) (at : ℕ) (o : List ℕ) : Type 0 where
  pub item : Item
  pub is : written_in m t text e ≡ accept item
  pub room : at + length (item_text m item) ≤ length o
