-- The whole call: what the first walk says decides the answer and what becomes of the output.
use Rattle.std.specs.Prelude.{Ok, Err}
use mathlib.Core.Path.{◌≡◌, refl, ap, ◌∙◌}
use mathlib.Core.List.{List}
use Prim.Native.Nat.{ℕ, ◌≤◌, ◌<◌}
use native.Mathlib.Omega.{arith}
use borrow.Author.Tests.{le-leb, lt-leb}
use lib.ListN.{length}
use Rattle.definitions.specs.Lists.{over}
use Rattle.definitions.specs.Limits.{needed_limit}
use Rattle.definitions.specs.Refusal.{refusal, needed}
use Rattle.definitions.specs.Table.{Table, Outcome, refused, accepted}
use Rattle.definitions.specs.Write.{Item, text_of, writing, output_after}
use Rattle.definitions.specs.declared.Mode.{Mode}
use Rattle.definitions.specs.declared.Refusal.{Refusal}
use Rattle.measures.specs.RowsMeasured.{items_for, lines_of, extents_of, extent_by, extent_for}
use Rattle.writer.specs.SecondWalk.{lines_by, lines_for, LinesReady}
use Rattle.measures.specs.declared.rows.Extent.{Extent}
use Rattle.writer.specs.Writes.{Writes}

-- what each outcome of the rows says
module _ (m : Mode) (t : Table) (text o : List ℕ) where
  written_as : (os : Outcome (List Item)) → items_for m t text ≡ os → writing m t text (length o) ≡ text_of m (length o) os
  unfolding writing
  written_as os e = ap (text_of m (length o)) e

  pub writes-refused : (x : Refusal) → refused x ≡ extent_for m t text → Writes m t text o (Err x) o
  unfolding output_after
  writes-refused x e = by (items_for m t text) refl e
    where
      by : (os : Outcome (List Item)) → items_for m t text ≡ os → refused x ≡ extent_by m os → Writes m t text o (Err x) o
      by (refused r) q e =
          let w = written_as (refused r) q in
          let k : x ≡ r = cc in
          record { answer = rw w (rw k); after = rw w }
      by (accepted is) q e = let z : ◌≡◌ {A = ℕ} 0 1 = cc in absurd (omega arith)

  module _ (x : Extent) (e : accepted x ≡ extent_for m t text) where
    abbrev n : ℕ
    n = x.length

    -- all rows are accepted
    record Accepted : Type 0 where
      items : List Item
      are : items_for m t text ≡ accepted items
      count : n ≡ needed (length (lines_of m items))

    all-accepted : Accepted
    all-accepted = by (items_for m t text) refl e
      where
        by : (os : Outcome (List Item)) → items_for m t text ≡ os → accepted x ≡ extent_by m os → Accepted
        by (refused r) q e = let z : ◌≡◌ {A = ℕ} 0 1 = cc in absurd (omega arith)
        by (accepted is) q e =
            let k : x ≡ extents_of m is = cc in
            record { items = is; are = q; count = ap (λ (y : Extent). y.length) k }

    abbrev lines : List ℕ
    lines = lines_of m all-accepted.items

    pub writes-full : length o < n → Writes m t text o (Err (refusal 14 n)) o
    unfolding output_after needed
    writes-full h =
        let long : length o < length lines = omega (arith, all-accepted.count) in
        let w : writing m t text (length o) ≡ refused (refusal 14 (needed (length lines))) =
        written_as (accepted all-accepted.items) all-accepted.are ∙ rw (lt-leb (length lines) (length o) long) in
        record { answer = rw w (ap (λ (x : ℕ). refused (refusal 14 x)) all-accepted.count); after = rw w }

    module _ (h : n ≤ length o) (g : length o < needed_limit) where
      length-is : n ≡ length lines
      unfolding needed
      length-is = omega (arith, all-accepted.count)

      pub writes-ready : LinesReady m t text o
      writes-ready = record { items = all-accepted.items; are = all-accepted.are; room = omega (arith, length-is) }

      pub writes-done : (o' : List ℕ) → o' ≡ over (lines_for m t text) o → Writes m t text o (Ok n) o'
      unfolding output_after
      writes-done o' q =
          let w : writing m t text (length o) ≡ accepted lines =
          written_as (accepted all-accepted.items) all-accepted.are
          ∙ rw (le-leb (length lines) (length o) (omega (arith, length-is))) in
          record {
            answer = rw w (ap accepted length-is);
            after = rw w (q ∙ ap (λ (os : Outcome (List Item)). over (lines_by m os) o) all-accepted.are);
          }
