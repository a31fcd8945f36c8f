-- What is known of a file that was written? What was asked for was accepted, item by item, and the file is their texts.
use Prim.Native.Nat.{ℕ}
use mathlib.Core.Path.{◌≡◌, refl, ap, ◌∙◌}
use mathlib.Core.Bool.{Bool, true, false, cond}
use mathlib.Core.List.{List}
use lib.Dec.{leb}
use lib.ListN.{length}
use Rattle.definitions.specs.Lists.{joined, AllOf}
use Rattle.definitions.specs.Refusal.{Refusal}
use Rattle.definitions.specs.Table.{Table, Outcome, refused, accepted, entries, row_by_row}
use Rattle.definitions.specs.Write.{Item, item_text, written_in, text_of, writing}
use Rattle.definitions.specs.declared.Mode.{Mode}
use Rattle.definitions.proofs.Truths.{never}
use Rattle.definitions.proofs.Accepted.{WritableItem, rows-accepted, item-writable}

pub record Asked (m : Mode) (t : Table) (text s : List ℕ) : Type 0 where
  pub items : List Item
  pub asked : row_by_row (written_in m t text) 0 (entries t) ≡ accepted items
  pub written : s ≡ joined (item_text m) items

pub writing-asked : (m : Mode) (t : Table) (text : List ℕ) (room : ℕ) (s : List ℕ) → writing m t text room ≡ accepted s → Asked m t text s
unfolding writing
writing-asked m t text room s e = by (row_by_row (written_in m t text) 0 (entries t)) refl e
  where
    fitted : (b : Bool) (x : List ℕ) (r : Refusal) → cond b (accepted x) (refused r) ≡ accepted s → s ≡ x
    fitted true x r q = cc
    fitted false x r q = never cc

    by : (o : Outcome (List Item)) → row_by_row (written_in m t text) 0 (entries t) ≡ o → text_of m room o ≡ accepted s → Asked m t text s
    by (refused r) p q = never cc
    by (accepted is) p q = record {
      items = is;
      asked = p;
      written = fitted (leb (length (joined (item_text m) is)) room) (joined (item_text m) is) _ q;
    }

module _ (m : Mode) (t : Table) (text : List ℕ) (is : List Item) (a : row_by_row (written_in m t text) 0 (entries t) ≡ accepted is) where
  pub asked-writable : AllOf (WritableItem m) is
  asked-writable = rows-accepted (written_in m t text) (WritableItem m) (item-writable m t text) 0 (entries t) is a

  pub asked-text : (room : ℕ) (s : List ℕ) → writing m t text room ≡ accepted s → s ≡ joined (item_text m) is
  asked-text room s e =
      let k = writing-asked m t text room s e in
      let same : k.items ≡ is = let p = k.asked in cc in
      k.written ∙ ap (joined (item_text m)) same
