-- One row of the table: what the first walk says of it is what the definitions say.
use mathlib.Core.Path.{◌≡◌, refl, ap, ◌∙◌}
use mathlib.Core.Bool.{Bool, true, false, cond, ◌&&◌}
use mathlib.Core.List.{List}
use Prim.Native.Nat.{ℕ, ◌+◌, ◌-◌, ◌≤◌}
use native.Mathlib.Omega.{arith}
use borrow.Author.Tests.{leb-true}
use lib.Dec.{leb}
use lib.ListN.{length, take, drop, length-take, length-drop}
use Rattle.definitions.specs.Refusal.{refuse, accept, needed}
use Rattle.definitions.specs.Row.{Term, row_of}
use Rattle.definitions.specs.Table.{Table, term_room, indexed, and_then}
use Rattle.definitions.specs.declared.Entry.{Entry}
use Rattle.definitions.specs.Write.{weighs, say, line, item_text, one_line, row_allowed, allowed}
use Rattle.definitions.specs.declared.Mode.{Mode}
use Rattle.printed.specs.declared.kinds.Shape.{Shape}
use Rattle.std.specs.Prelude.{Some, None, Ok}
use Rattle.shown.specs.Terms.{own_terms}
use Rattle.printed.specs.Rows.{row_on}
use Rattle.printed.proofs.PrintedTexts.{remark-length}
use Rattle.printed.proofs.OneEntry.{part-is, own_is, item_for}
use Rattle.measures.specs.Rows.{measured, row_measured}
use Rattle.measures.specs.Entries.{comment_measured, part_measured}

module _ (s : Shape) (e : Entry) (t : Table) (m : Mode) where
  pub part-outside : leb (e.first + e.count) (term_room t) ≡ false → refuse 11 ≡ part_measured s e t m
  part-outside q = rw q

  pub part-inside : leb (e.first + e.count) (term_room t) ≡ true
      → row_measured m (row_on s (take (e.first + e.count - e.first) (drop e.first t.weights))
      (take (e.first + e.count - e.first) (drop e.first t.literals))) ≡ part_measured s e t m
  part-inside q = rw (part-is e.first e.count t.weights, part-is e.first e.count t.literals, q)

-- ---- what an entry comes to

module _ (m : Mode) (t : Table) (text : List ℕ) (e : Entry) where
  abbrev part : List ℕ
  part = take e.count (drop e.first text)

  pub measured-comment : measured m (and_then (item_for (Ok None) t text e) (allowed m)) ≡ comment_measured e.first e.count text
  unfolding item_text
  measured-comment = by (leb (e.first + e.count) (length text)) (one_line part) (leb-true (e.first + e.count) (length text))
    where
      by : (p q : Bool) → (p ≡ true → e.first + e.count ≤ length text)
          → measured m (and_then (cond p (cond q (accept (say part)) (refuse 15)) (refuse 11)) (allowed m))
          ≡ cond p (cond q (accept (record { length = needed (e.count + 3); lines = 1; terms = 0 })) (refuse 15)) (refuse 11)
      by true true h =
          let g : e.first + e.count ≤ length text = h refl in
          let l : length part ≡ e.count = simp (length-take, length-drop) (omega arith) in
          ap (λ (x : ℕ). accept (record { length = needed x; lines = 1; terms = 0 })) (remark-length part ∙ rw l)
      by true false h = refl
      by false q h = refl

  pub measured-row : (s : Shape) → measured m (and_then (item_for (Ok (Some s)) t text e) (allowed m)) ≡ part_measured s e t m
  unfolding row_measured
  measured-row s = rw (own_is t e s.unit) (by (leb (e.first + e.count) (term_room t)) (indexed own && weighs own))
    where
      own : List Term
      own = own_terms s.unit (take e.count (drop e.first t.weights)) (take e.count (drop e.first t.literals))

      by : (p q : Bool) → measured m (and_then (cond (p && q) (accept (line (row_of s.kind s.bound own))) (refuse 11))
          (allowed m))
          ≡ cond p (cond q (measured m (row_allowed m (row_of s.kind s.bound own))) (refuse 11)) (refuse 11)
      by true true = refl
      by true false = refl
      by false q = refl
