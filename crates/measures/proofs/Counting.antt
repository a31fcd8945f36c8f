-- The first walk over the rows of a table: one row more, and the end.
use mathlib.Core.Path.{◌≡◌, refl, sym, ◌∙◌}
use mathlib.Core.List.{List, [], ◌∷◌}
use Prim.Native.Nat.{ℕ, ◌+◌, ◌≤◌, ◌<◌}
use native.Mathlib.Nat.{zero-add}
use native.Mathlib.Omega.{arith}
use lib.ListN.{length, drop, length-append}
use Rattle.std.specs.Prelude.{Some, slice_get}
use Rattle.definitions.specs.Lists.{joined, total}
use Rattle.definitions.specs.Limits.{needed_limit}
use Rattle.definitions.specs.Refusal.{Checked, refuse, accept, refusal, needed}
use Rattle.definitions.specs.Table.{Table, row_room, Outcome, refused, accepted, entries, on_row, row_by_row}
use Rattle.definitions.specs.declared.Entry.{Entry}
use Rattle.definitions.specs.Write.{Item, item_text, written_in}
use Rattle.definitions.specs.Back.{lines_back, terms_back}
use Rattle.definitions.specs.declared.Mode.{Mode}
use Rattle.columns.proofs.EntryLaws.{entries_from, entries-end}
use Rattle.tables.proofs.Entries.{entry-taken}
use Rattle.measures.specs.declared.rows.Extent.{Extent}
use Rattle.measures.specs.Rows.{extent_of, measured}
use Rattle.measures.specs.RowsMeasured.{added_to, items_for, lines_of, extent_by, extent_for}

abbrev pub measured_then : Checked Extent → ℕ → Extent → (Extent → Outcome Extent) → Outcome Extent
measured_then (refuse n) i a rest = refused (refusal n i)
measured_then (accept k) i a rest = rest (added_to a k)

-- what is counted so far, and what is left
unfoldable pub measuring : (Entry → Checked Extent) → ℕ → Extent → List Entry → Outcome Extent
measuring f i a [] = accepted a
measuring f i a (e ∷ es) = measured_then (f e) i a (λ b. measuring f (i + 1) b es)

pub record Within (a : Extent) : Type 0 where
  pub long : a.length ≤ needed_limit
  pub lined : a.lines ≤ needed_limit
  pub termed : a.terms ≤ needed_limit

within-added : (a k : Extent) → Within (added_to a k)
unfolding needed
within-added a k = record { long = omega arith; lined = omega arith; termed = omega arith }

same-extent : {l l' n n' k k' : ℕ} → l ≡ l' → n ≡ n' → k ≡ k'
    → ◌≡◌ {A = Outcome Extent} (accepted (record { length = l; lines = n; terms = k }))
    (accepted (record { length = l'; lines = n'; terms = k' }))
same-extent p q r = cc

module _ (m : Mode) (g : Entry → Checked Item) where
  abbrev added : Extent → Outcome (List Item) → Outcome Extent
  added a (refused r) = refused r
  added a (accepted is) =
      accepted (record {
        length = needed (a.length + length (lines_of m is));
        lines = needed (a.lines + total (lines_back m) is);
        terms = needed (a.terms + total terms_back is);
      })

  measuring-is : (i : ℕ) (a : Extent) (es : List Entry) → Within a
      → measuring (λ e. measured m (g e)) i a es ≡ added a (row_by_row g i es)
  unfolding measuring row_by_row joined total needed
  measuring-is i a [] h = same-extent (omega arith) (omega arith) (omega arith)
  measuring-is i a (e ∷ es) h = by (g e) (λ b l. measuring-is (i + 1) b es l)
    where
      sum : (x : Item) (os : Outcome (List Item)) → added (added_to a (extent_of m x)) os ≡ added a (on_row i (accept x) os)
      sum x (refused r) = refl
      sum x (accepted is) = same-extent (omega (arith, length-append (item_text m x) (lines_of m is))) (omega arith) (omega arith)

      by : (c : Checked Item)
          → ((b : Extent) → Within b → measuring (λ e. measured m (g e)) (i + 1) b es ≡ added b (row_by_row g (i + 1) es))
          → measured_then (measured m c) i a (λ b. measuring (λ e. measured m (g e)) (i + 1) b es)
          ≡ added a (on_row i c (row_by_row g (i + 1) es))
      by (refuse n) r = refl
      by (accept x) r = r (added_to a (extent_of m x)) (within-added a (extent_of m x)) ∙ sum x (row_by_row g (i + 1) es)

-- no row is counted yet
abbrev pub nothing : Extent
nothing = record { length = 0; lines = 0; terms = 0 }

module _ (m : Mode) (t : Table) (text : List ℕ) where
  abbrev extent_at : Entry → Checked Extent
  extent_at e = measured m (written_in m t text e)

  -- i rows are counted
  pub record Counting (i : ℕ) (a : Extent) : Type 0 where
    pub within : i ≤ row_room t
    pub limit : Within a
    pub left : measuring extent_at i a (drop i (entries t)) ≡ measuring extent_at 0 nothing (entries t)

  pub counting-none : Counting 0 nothing
  counting-none =
      record { within = omega arith; limit = record { long = omega arith; lined = omega arith; termed = omega arith }; left = refl }

  whole : measuring extent_at 0 nothing (entries t) ≡ extent_for m t text
  whole =
      measuring-is m (written_in m t text) 0 nothing (entries t) (record { long = omega arith; lined = omega arith; termed = omega arith })
      ∙ by (items_for m t text)
    where
      by : (os : Outcome (List Item)) → added m (written_in m t text) nothing os ≡ extent_by m os
      by (refused r) = refl
      by (accepted is) = same-extent (rw zero-add) (rw zero-add) (rw zero-add)

  module _ {i : ℕ} {a : Extent} (g : Counting i a) where
    module _ (x : Entry) (h : slice_get (entries t) i ≡ Some x) (r : Checked Extent) (e : r ≡ extent_at x) where
      inside : i < row_room t
      inside = (entry-taken t i x h).0

      step : measured_then r i a (λ b. measuring extent_at (i + 1) b (drop (i + 1) (entries t))) ≡ extent_for m t text
      unfolding measuring
      step = rw (e, (entry-taken t i x h).1) (rw (entries_from t i inside) at g.left) ∙ whole

      pub counting-refused : (n : ℕ) → r ≡ refuse n → refused (refusal n i) ≡ extent_for m t text
      counting-refused n q = rw q at step

      pub counting_more : (k b : Extent) → r ≡ accept k → b ≡ added_to a k → Counting (i + 1) b
      counting_more k b q p =
          record { within = omega (arith, inside); limit = rw p (within-added a k); left = rw p (rw q at step) ∙ sym whole }

    pub counting-all : row_room t ≤ i → accepted a ≡ extent_for m t text
    unfolding measuring
    counting-all h = rw (entries-end t i h) at g.left ∙ whole
