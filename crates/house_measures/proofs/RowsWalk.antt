-- The rows of a table one by one, and the walk that measures them: what is counted after some rows.
use Rattle.std.specs.Prelude.{Some, slice_get}
use mathlib.Core.Path.{◌≡◌, refl, sym, ap, ◌∙◌}
use mathlib.Core.List.{List, [], ◌∷◌, ◌++◌}
use Prim.Native.Nat.{ℕ, ◌+◌, ◌≤◌, ◌<◌, min}
use native.Mathlib.Omega.{arith}
use lib.ListN.{length, take, drop, length-take, drop_of_length-le}
use Rattle.definitions.specs.Lists.{joined}
use Rattle.definitions.specs.Refusal.{refusal, Checked, refuse, accept, needed}
use Rattle.definitions.specs.Row.{Term, Line, terms_of}
use Rattle.definitions.specs.Table.{Table, row_room, Outcome, refused, accepted, all_terms, entries, and_then}
use Rattle.definitions.specs.declared.Entry.{Entry}
use Rattle.definitions.specs.House.{house_line, listed_line, listed_entry}
use Rattle.definitions.proofs.Columns.{joined_snoc, Passed, passed_none, passed-all, passed-refused, passed-more}
use Rattle.laws.proofs.Puts.{drop-in-take}
use Rattle.definitions.proofs.Truths.{never}
use Rattle.columns.proofs.EntryLaws.{entry_at, entries-count, entries_from}
use Rattle.tables.proofs.Entries.{entry-taken}
use Rattle.house_lengths.proofs.Fields.{needed-more, needed-more-yet}
use Rattle.house_measures.specs.declared.rows.Size.{Size}
use Rattle.house_measures.specs.Lines.{line_on, lines_of}
use Rattle.house_measures.specs.Sizes.{size_of, size_in, Sizes, sizes_in}
use Rattle.columns.proofs.KindNumbers.{line-by-terms}

-- ---- what a size was counted of

pub refused-size : (first k : ℕ) (x : Checked Line) → refuse k ≡ size_in first x → x ≡ refuse k
refused-size first k (refuse n) e = cc
refused-size first k (accept l) e = never (cc)

pub record Sized (first : ℕ) (x : Checked Line) (s : Size) : Type 0 where
  pub line : Line
  pub is : x ≡ accept line
  pub size : s ≡ size_of first line

pub accepted-size : (first : ℕ) (x : Checked Line) (s : Size) → accept s ≡ size_in first x → Sized first x s
accepted-size first (refuse n) s e = never (cc)
accepted-size first (accept l) s e = record { line = l; is = refl; size = cc }

-- the line of an entry is that of its columns
pub by-columns : (first : ℕ) (t : Table) (e : Entry) → listed_entry first t e ≡ line_on first t.weights t.literals e
unfolding listed_entry
by-columns first t e = ap (λ (c : Checked Line). and_then c (listed_line first)) (line-by-terms t e)

module _ (t : Table) (n : ℕ) where
  -- ---- the entries of the first n rows

  pub next-entry : (i : ℕ) (e : Entry) → i < n → slice_get (entries t) i ≡ Some e
      → drop i (take n (entries t)) ≡ e ∷ drop (i + 1) (take n (entries t))
  next-entry i e h g =
      let p = entry-taken t i e g in
      rw p.1 (drop-in-take (entries t) n i (entry_at t i) h (entries_from t i p.0))

  pub no-entry : (i : ℕ) → min n (row_room t) ≤ i → drop i (take n (entries t)) ≡ []
  no-entry i h =
      let g : length (take n (entries t)) ≤ i = omega (arith, length-take n (entries t), entries-count t) in
      drop_of_length-le (take n (entries t)) g

  -- ---- the first walk

  -- i rows are accepted, with these terms and this length
  pub record Measures (first i : ℕ) (all : Size) : Type 0 where
    pub lines : List Line
    pub rows : Passed (listed_entry first t) (take n (entries t)) i lines
    pub terms : all.terms ≡ needed (length (all_terms lines))
    pub length : all.length ≡ needed (lib.ListN.length (joined (house_line first) lines))

  pub measures-none : (first : ℕ) → Measures first 0 (record { terms = 0; length = 0 })
  unfolding needed joined
  measures-none first = record { lines = []; rows = passed_none (listed_entry first t) (take n (entries t)); terms = refl; length = refl }

  module _ (first i : ℕ) (all : Size) (m : Measures first i all) where
    module _ (h : i < n) (a : Entry) (g : slice_get (entries t) i ≡ Some a) where
      here : listed_entry first t a ≡ line_on first t.weights t.literals a
      here = by-columns first t a

      pub measures-refused : (k : ℕ) → refuse k ≡ size_in first (line_on first t.weights t.literals a)
          → refused (refusal k i) ≡ sizes_in first (lines_of first n t)
      measures-refused k e =
          rw
          (passed-refused (listed_entry first t) (take n (entries t)) i m.lines m.rows a (next-entry i a h g) k
          (here ∙ refused-size first k _ e))

      pub measures-more : (s : Size) (p q : ℕ) → accept s ≡ size_in first (line_on first t.weights t.literals a)
          → p ≡ needed (all.terms + s.terms) → q ≡ needed (all.length + s.length) → Measures first (i + 1)
          (record { terms = p; length = q })
      measures-more s p q e u v =
          let x = accepted-size first (line_on first t.weights t.literals a) s e in
          let l = x.line in
          record {
            lines = m.lines ++ (l ∷ []);
            rows =
                passed-more (listed_entry first t) (take n (entries t)) i m.lines m.rows a (next-entry i a h g) l
                (here ∙ x.is);
            terms =
                needed-more (all_terms m.lines) (terms_of l) m.terms (ap (λ (z : Size). z.terms) x.size) u
                ∙ ap (λ (r : List Term). needed (length r)) (sym (joined_snoc terms_of m.lines l));
            length =
                needed-more-yet (joined (house_line first) m.lines) (house_line first l) m.length
                (ap (λ (z : Size). z.length) x.size) v
                ∙ ap (λ (r : List ℕ). needed (length r)) (sym (joined_snoc (house_line first) m.lines l));
          }

    pub measures-all : (r : ℕ) → r ≡ min n (row_room t) → i ≤ r → r ≤ i
        → accepted (record { rows = r; all = all }) ≡ sizes_in first (lines_of first n t)
    measures-all r e h g =
        rw (passed-all (listed_entry first t) (take n (entries t)) i m.lines m.rows (no-entry i (omega arith)))
        (sizes-eq (omega (arith, m.rows.count)) m.terms m.length)
      where
        sizes-eq : {a b : ℕ} {x y z w : ℕ} → a ≡ b → x ≡ y → z ≡ w
            → ◌≡◌ {A = Outcome Sizes} (accepted (record { rows = a; all = record { terms = x; length = z } }))
            (accepted (record { rows = b; all = record { terms = y; length = w } }))
        sizes-eq p q r = cc
