-- The second walk over the rows of a table: one row more, and the end.
use mathlib.Core.Path.{◌≡◌, refl, sym, ap, ◌∙◌}
use mathlib.Core.List.{List, [], ◌∷◌, ◌++◌}
use Prim.Native.Nat.{ℕ, ◌+◌, ◌≤◌, ◌<◌}
use native.Mathlib.Nat.{zero-add}
use native.Mathlib.Omega.{arith}
use lib.ListN.{length, drop, length-append}
use Rattle.std.specs.Prelude.{Some, slice_get}
use Rattle.definitions.specs.Lists.{over, joined}
use Rattle.definitions.specs.Refusal.{Checked, refuse, accept}
use Rattle.definitions.specs.Table.{Table, row_room, Outcome, refused, accepted, entries, on_row, row_by_row}
use Rattle.definitions.specs.declared.Entry.{Entry}
use Rattle.definitions.specs.Write.{Item, item_text, written_in}
use Rattle.definitions.specs.declared.Mode.{Mode}
use Rattle.laws.proofs.Puts.{placed, Puts, puts-length, placed-append, puts_none}
use Rattle.columns.proofs.EntryLaws.{entries_from, entries-end}
use Rattle.tables.proofs.Entries.{entry-taken}
use Rattle.measures.specs.RowsMeasured.{lines_of}
use Rattle.writer.specs.Entries.{text_from, entry_text, EntryReady}
use Rattle.writer.specs.SecondWalk.{lines_by, lines_for, LinesReady}

-- what stands at the front of rows that are all accepted
record Front (i : ℕ) (f : Entry → Checked Item) (e : Entry) (es : List Entry) (is : List Item) : Type 0 where
  item : Item
  others : List Item
  accepts : f e ≡ accept item
  after : row_by_row f (i + 1) es ≡ accepted others
  together : is ≡ item ∷ others

front : (i : ℕ) (f : Entry → Checked Item) (e : Entry) (es : List Entry) (is : List Item) → row_by_row f i (e ∷ es) ≡ accepted is
    → Front i f e es is
unfolding row_by_row
front i f e es is = by (f e) (row_by_row f (i + 1) es) refl refl
  where
    by : (c : Checked Item) (os : Outcome (List Item)) → f e ≡ c → row_by_row f (i + 1) es ≡ os → on_row i c os ≡ accepted is
        → Front i f e es is
    by (refuse n) os p q r = let z : ◌≡◌ {A = ℕ} 0 1 = cc in absurd (omega arith)
    by (accept x) (refused y) p q r = let z : ◌≡◌ {A = ℕ} 0 1 = cc in absurd (omega arith)
    by (accept x) (accepted xs) p q r = record { item = x; others = xs; accepts = p; after = q; together = cc }

-- i rows are written
pub record Lining (m : Mode) (t : Table) (text o : List ℕ) (i at : ℕ) (out : List ℕ) : Type 0 where
  pub within : i ≤ row_room t
  pub left : List Item
  pub are : row_by_row (written_in m t text) i (drop i (entries t)) ≡ accepted left
  pub place : at + length (lines_of m left) ≡ length (lines_for m t text)
  pub so_far : placed (lines_of m left) at out ≡ placed (lines_for m t text) 0 o
  pub long : length out ≡ length o

module _ {m : Mode} {t : Table} {text : List ℕ} {o : List ℕ} (r : LinesReady m t text o) where
  items-are : lines_of m r.items ≡ lines_for m t text
  items-are = ap (lines_by m) (sym r.are)

  pub lining-none : Lining m t text o 0 0 o
  lining-none =
      record {
        within = omega arith;
        left = r.items;
        are = r.are;
        place = omega (arith, ap length items-are);
        so_far = ap (λ (l : List ℕ). placed l 0 o) items-are;
        long = refl;
      }

  module _ {i at : ℕ} {out : List ℕ} (g : Lining m t text o i at out) where
    module _ {x : Entry} (h : slice_get (entries t) i ≡ Some x) where
      inside : i < row_room t
      inside = (entry-taken t i x h).0

      here : Front i (written_in m t text) x (drop (i + 1) (entries t)) g.left
      here =
          front i (written_in m t text) x (drop (i + 1) (entries t)) g.left
          (rw (entries_from t i inside, ← (entry-taken t i x h).1) at g.are)

      abbrev text-here : List ℕ
      text-here = item_text m here.item

      split : lines_of m g.left ≡ text-here ++ lines_of m here.others
      unfolding joined
      split = ap (lines_of m) here.together

      room-here : at + length text-here ≤ length out
      room-here =
          omega (
            arith,
            g.place,
            g.long,
            r.room,
            ap length items-are,
            ap length split,
            length-append text-here (lines_of m here.others),
          )

      pub lining-ready : EntryReady m t text x at out
      lining-ready = record { item = here.item; is = here.accepts; room = room-here }

      pub lining-more : {at' : ℕ} {out' : List ℕ} → Puts (entry_text m t text x) at out at' out' → Lining m t text o (i + 1) at' out'
      lining-more {at'} {out'} q =
          let p : Puts text-here at out at' out' = rw (ap (text_from m) here.accepts) at q in
          record {
            within = omega (arith, inside);
            left = here.others;
            are = here.after;
            place = omega (arith, g.place, p.place, ap length split, length-append text-here (lines_of m here.others));
            so_far = rw (p.place, p.after) (placed-append text-here at out room-here (lines_of m here.others))
                ∙ rw split at g.so_far;
            long = puts-length p room-here ∙ g.long;
          }

    pub lining-all : row_room t ≤ i → out ≡ over (lines_for m t text) o
    unfolding row_by_row joined
    lining-all h =
        let none : g.left ≡ [] = empty g.left (rw (entries-end t i h) at g.are) in
        (puts_none at out).after ∙ ap (λ (l : List Item). placed (lines_of m l) at out) (sym none) ∙ g.so_far ∙ rw zero-add
      where
        empty : (is : List Item) → accepted [] ≡ accepted is → is ≡ []
        empty is e = cc
