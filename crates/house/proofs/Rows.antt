-- The walk that puts the rows of a table: what is put after some rows.
use Rattle.std.specs.Prelude.{Some, slice_get}
use mathlib.Core.Path.{◌≡◌, sym, ap, ◌∙◌}
use mathlib.Core.List.{List, [], ◌∷◌, ◌++◌}
use Prim.Native.Nat.{ℕ, ◌+◌, ◌≤◌, ◌<◌}
use native.Mathlib.Omega.{arith}
use lib.ListN.{length, take, drop, length-append}
use Rattle.definitions.specs.Lists.{joined}
use Rattle.definitions.specs.Refusal.{accept}
use Rattle.definitions.specs.Row.{Line}
use Rattle.definitions.specs.Table.{Table, accepted, entries}
use Rattle.definitions.specs.declared.Entry.{Entry}
use Rattle.definitions.specs.House.{house_line, listed_entry}
use Rattle.definitions.proofs.Columns.{joined-append, joined_snoc, Begins, Passed, passed_none, passed-all, passed-more}
use Rattle.definitions.proofs.Columns.{Next, passed-next, passed-begins}
use Rattle.laws.proofs.Puts.{Puts, puts_none, puts_then, puts-length, puts-as}
use Rattle.house_measures.specs.Lines.{line_on, lines_of}
use Rattle.house_measures.proofs.RowsWalk.{by-columns, next-entry, no-entry}
use Rattle.house.specs.Ready.{RowReady, RowsReady}

module _ (t : Table) (n : ℕ) where
  -- i rows are put
  pub record Putting (first at : ℕ) (o : List ℕ) (i : ℕ) (out : List ℕ) (end : ℕ) : Type 0 where
    pub lines : List Line
    pub rows : Passed (listed_entry first t) (take n (entries t)) i lines
    pub puts : Puts (joined (house_line first) lines) at o end out

  pub putting-none : (first at : ℕ) (o : List ℕ) → Putting first at o 0 o at
  unfolding joined
  putting-none first at o =
      record { lines = []; rows = passed_none (listed_entry first t) (take n (entries t)); puts = puts_none at o }

  module _ {first at : ℕ} {o : List ℕ} (r : RowsReady first n t at o) {i : ℕ} {out : List ℕ} {end : ℕ}
      (p : Putting first at o i out end) where
    module _ (h : i < n) (a : Entry) (g : slice_get (entries t) i ≡ Some a) where
      here : drop i (take n (entries t)) ≡ a ∷ drop (i + 1) (take n (entries t))
      here = next-entry t n i a h g

      abbrev next : Next (listed_entry first t) (take n (entries t)) i p.lines p.rows a here r.lines r.are
      next = passed-next (listed_entry first t) (take n (entries t)) i p.lines p.rows a here r.lines r.are

      more : Passed (listed_entry first t) (take n (entries t)) (i + 1) (p.lines ++ (next.value ∷ []))
      more =
          passed-more (listed_entry first t) (take n (entries t)) i p.lines p.rows a here next.value next.accepts

      begins : Begins (p.lines ++ (next.value ∷ [])) r.lines
      begins = passed-begins (listed_entry first t) (take n (entries t)) (i + 1) (p.lines ++ (next.value ∷ [])) more r.lines r.are

      rooms : (at + (length (joined (house_line first) p.lines) + length (house_line first next.value)) ≤ length o)
      rooms =
          let text = joined (house_line first) in
          let pre = p.lines ++ (next.value ∷ []) in
          omega (
            arith,
            r.room,
            ap length (ap text begins.is ∙ joined-append (house_line first) pre begins.rest),
            length-append (text pre) (text begins.rest),
            ap length (joined_snoc (house_line first) p.lines next.value),
            length-append (text p.lines) (house_line first next.value),
          )

      accepts : line_on first t.weights t.literals a ≡ accept next.value
      accepts = sym (by-columns first t a) ∙ next.accepts

      pub putting-ready : RowReady first t.weights t.literals a end out
      putting-ready =
          record {
            line = next.value;
            is = accepts;
            room = omega (arith, rooms, p.puts.place, puts-length p.puts (omega (arith, rooms)));
          }

      pub putting-more : {out' : List ℕ} {end' : ℕ}
          → ((l : Line) → line_on first t.weights t.literals a ≡ accept l → Puts (house_line first l) end out end' out')
          → Putting first at o (i + 1) out' end'
      putting-more f =
          record {
            lines = p.lines ++ (next.value ∷ []);
            rows = more;
            puts =
                puts-as (puts_then p.puts (omega (arith, rooms)) (f next.value accepts))
                (sym (joined_snoc (house_line first) p.lines next.value));
          }

    pub putting-all : n ≤ i → (ls : List Line) → lines_of first n t ≡ accepted ls → Puts (joined (house_line first) ls) at o end out
    putting-all h ls e =
        let a = passed-all (listed_entry first t) (take n (entries t)) i p.lines p.rows (no-entry t n i (omega arith)) in
        let q : p.lines ≡ ls = cc in
        puts-as p.puts (ap (joined (house_line first)) q)
