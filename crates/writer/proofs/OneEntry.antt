-- One row of the table that is accepted: what its line asks, and that its text is what the definitions say.
use mathlib.Core.Path.{◌≡◌, refl, sym, ap, ◌∙◌}
use mathlib.Core.Bool.{Bool, true, false, cond, ◌&&◌}
use mathlib.Core.List.{List}
use Prim.Native.Nat.{ℕ, ◌+◌, ◌-◌, ◌≤◌}
use native.Mathlib.Omega.{arith}
use borrow.Author.Tests.{leb-true}
use lib.Dec.{leb}
use lib.ListN.{length, take, drop}
use Rattle.definitions.specs.Lists.{joined}
use Rattle.definitions.specs.Refusal.{refuse, accept}
use Rattle.definitions.specs.Row.{Row as DRow, Term, row_of}
use Rattle.definitions.specs.Table.{Table, term_room, indexed, and_then}
use Rattle.definitions.specs.declared.Entry.{Entry}
use Rattle.definitions.specs.Write.{weighs, remark_text, row_text, printed, Item, say, line, item_text, one_line}
use Rattle.definitions.specs.Write.{row_allowed, has_terms, numbered, bounded, allowed, written_in}
use Rattle.definitions.specs.declared.Mode.{Mode}
use Rattle.definitions.proofs.Truths.{both}
use Rattle.laws.proofs.Puts.{Puts, puts-as}
use Rattle.puts.specs.SeveralPuts.{LandsEach}
use Rattle.puts.proofs.SeveralLaws.{all_of, each_puts}
use Rattle.printed.specs.declared.kinds.Shape.{Shape}
use Rattle.std.specs.Prelude.{Some, None, Ok}
use Rattle.shown.specs.Terms.{own_terms}
use Rattle.printed.specs.Rows.{row_on}
use Rattle.printed.proofs.OneEntry.{part-is, own_is, item_for}
use Rattle.lines.specs.LinePieces.{row_pieces}
use Rattle.lines.proofs.WholeLine.{row-puts}
use Rattle.writer.specs.Entries.{remark_pieces, text_from, entry_text, EntryReady}

-- a refusal is no item
never {ℓ} : {X : Type ℓ} {A : Type 0} {n : ℕ} {a : A} → refuse n ≡ accept a → X
never e = let z : ◌≡◌ {A = ℕ} 0 1 = cc in absurd (omega arith)

-- a row that is allowed
allowed-row : (m : Mode) (r : DRow) (item : Item) → row_allowed m r ≡ accept item
    → (numbered m.first r.terms ≡ true) × (bounded m r ≡ true) × (item ≡ line r)
unfolding row_allowed
allowed-row m r item = by (has_terms r.kind r.terms) (numbered m.first r.terms) (bounded m r)
  where
    by : (h u v : Bool) → cond h (cond u (cond v (accept (line r)) (refuse 8)) (refuse 5)) (refuse 13) ≡ accept item
        → (u ≡ true) × (v ≡ true) × (item ≡ line r)
    by true true true e = (refl, refl, cc)
    by true true false e = never e
    by true false v e = never e
    by false u v e = never e

module _ (m : Mode) (t : Table) (text : List ℕ) (x : Entry) where
  abbrev part : List ℕ
  part = take x.count (drop x.first text)

  accepted-comment : (item : Item) → and_then (item_for (Ok None) t text x) (allowed m) ≡ accept item
      → (x.first + x.count ≤ length text) × (item ≡ say part)
  accepted-comment item = by (leb (x.first + x.count) (length text)) (one_line part) (leb-true (x.first + x.count) (length text))
    where
      by : (p q : Bool) → (p ≡ true → x.first + x.count ≤ length text)
          → and_then (cond p (cond q (accept (say part)) (refuse 15)) (refuse 11)) (allowed m) ≡ accept item
          → (x.first + x.count ≤ length text) × (item ≡ say part)
      by true true h e = (h refl, cc)
      by true false h e = never e
      by false q h e = never e

  -- a row that is accepted
  record AcceptedRow (s : Shape) (item : Item) : Type 0 where
    inside : x.first + x.count ≤ term_room t
    weigh : weighs (own_terms s.unit (take x.count (drop x.first t.weights)) (take x.count (drop x.first t.literals))) ≡ true
    numbers : numbered m.first (own_terms s.unit (take x.count (drop x.first t.weights)) (take x.count (drop x.first t.literals))) ≡ true
    bounds : bounded m (row_on s (take x.count (drop x.first t.weights)) (take x.count (drop x.first t.literals))) ≡ true
    is : item ≡ line (row_on s (take x.count (drop x.first t.weights)) (take x.count (drop x.first t.literals)))

  accepted-row : (s : Shape) (item : Item) → and_then (item_for (Ok (Some s)) t text x) (allowed m) ≡ accept item
      → AcceptedRow s item
  accepted-row s item e =
      by (leb (x.first + x.count) (term_room t)) (indexed own && weighs own) (leb-true (x.first + x.count) (term_room t)) (λ q. q)
      (rw (own_is t x s.unit) at e)
    where
      own : List Term
      own = own_terms s.unit (take x.count (drop x.first t.weights)) (take x.count (drop x.first t.literals))

      by : (p q : Bool) → (p ≡ true → x.first + x.count ≤ term_room t) → (q ≡ true → indexed own && weighs own ≡ true)
          → and_then (cond (p && q) (accept (line (row_of s.kind s.bound own))) (refuse 11)) (allowed m) ≡ accept item
          → AcceptedRow s item
      by true true a b e =
          let w = allowed-row m (row_of s.kind s.bound own) item e in
          record { inside = a refl; weigh = (both (indexed own) (weighs own) (b refl)).1; numbers = w.0; bounds = w.1; is = w.2 }
      by true false a b e = never e
      by false q a b e = never e

  module _ {at : ℕ} {o : List ℕ} (r : EntryReady m t text x at o) where
    comment-all : (c : List ℕ) → all_of (remark_pieces c) ≡ remark_text c
    unfolding joined remark_text
    comment-all c = refl

    -- a comment that is to be written
    pub record CommentReady : Type 0 where
      pub inside : x.first + x.count ≤ length text
      pub puts : {q : ℕ} {o' : List ℕ} → LandsEach (remark_pieces (take (x.first + x.count - x.first) (drop x.first text))) at o q o'
          → Puts (entry_text m t text x) at o q o'

    pub comment-ready : written_in m t text x ≡ and_then (item_for (Ok None) t text x) (allowed m) → CommentReady
    unfolding item_text
    comment-ready e =
        let a = accepted-comment r.item (sym e ∙ r.is) in
        let c = take (x.first + x.count - x.first) (drop x.first text) in
        let i : item_text m r.item ≡ all_of (remark_pieces c) = ap (item_text m) a.1 ∙ rw (part-is x.first x.count text) (sym (comment-all _)) in
        record {
          inside = a.0;
          puts = λ l. puts-as (each_puts (remark_pieces c) at o l (omega (arith, r.room, ap length i))) (sym (ap (text_from m) r.is ∙ i));
        }

    -- a row that is to be written
    pub record PartReady (s : Shape) : Type 0 where
      pub inside : x.first + x.count ≤ term_room t
      pub puts : {q : ℕ} {o' : List ℕ}
          → LandsEach (row_pieces m s (own_terms s.unit (take (x.first + x.count - x.first) (drop x.first t.weights)) (take (x.first + x.count - x.first) (drop x.first t.literals)))) at o q o'
          → Puts (entry_text m t text x) at o q o'

    pub part-ready : (s : Shape) → written_in m t text x ≡ and_then (item_for (Ok (Some s)) t text x) (allowed m) → PartReady s
    unfolding item_text
    part-ready s e =
        let a = accepted-row s r.item (sym e ∙ r.is) in
        let i : item_text m r.item ≡ row_text m.first (printed m.plain (row_on s (take x.count (drop x.first t.weights)) (take x.count (drop x.first t.literals)))) =
        ap (item_text m) a.is in
        record {
          inside = a.inside;
          puts = rw (part-is x.first x.count t.weights, part-is x.first x.count t.literals) (λ l. puts-as
              (row-puts m s (take x.count (drop x.first t.weights)) (take x.count (drop x.first t.literals)) a.weigh a.numbers a.bounds at o l
              (omega (arith, r.room, ap length i)))
              (sym (ap (text_from m) r.is ∙ i)));
        }

    pub never-refused {ℓ} : {X : Type ℓ} {i : ℕ} → written_in m t text x ≡ refuse i → X
    never-refused e = never (sym e ∙ r.is)
