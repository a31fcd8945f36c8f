-- What is said before anything is written is what writing and reading then answer: the rows come to a text of that
-- length, and of it come back that many lines and terms.
use Prim.Native.Nat.{ℕ, ◌≤◌, ◌<◌}
use mathlib.Core.Path.{◌≡◌, refl, sym, ap, ap₂, ◌∙◌}
use mathlib.Core.Bool.{Bool, true, false}
use mathlib.Core.List.{List}
use native.Mathlib.Omega.{arith}
use borrow.Author.Tests.{le-leb, lt-leb, leb-true, leb-false}
use lib.Dec.{leb}
use lib.ListN.{length}
use Rattle.definitions.specs.Lists.{joined, total}
use Rattle.definitions.specs.Limits.{file_limit, needed_limit}
use Rattle.definitions.specs.Refusal.{refusal, needed}
use Rattle.definitions.specs.declared.Refusal.{Refusal}
use Rattle.definitions.specs.Row.{Line}
use Rattle.definitions.specs.Table.{Table, row_room, term_room, Outcome, refused, accepted, entries, all_terms, row_by_row, fitted}
use Rattle.definitions.specs.Table.{totals_of, counted}
use Rattle.definitions.specs.File.{file, reading}
use Rattle.definitions.specs.Write.{Item, item_text, written_in, writing, fitted_text}
use Rattle.definitions.specs.Back.{options_of, lines_back, terms_back}
use Rattle.definitions.specs.declared.Mode.{Mode}
use Rattle.definitions.proofs.ThereAndBack.{ThereAndBack, there_and_back}
use Rattle.definitions.proofs.Truths.{never}
use Rattle.measures.specs.declared.rows.Extent.{Extent}
use Rattle.measures.specs.RowsMeasured.{extents_of, extent_by, extent_for}
use Rattle.foreseen.specs.Returning.{Return, unwritten, unread, back, read_back, returning, foretold}

-- ---- what is foretold, test by test

module _ (x : Extent) (room rows terms : ℕ) where
  pub foretold-full : room < x.length → foretold x room rows terms ≡ unwritten (refusal 14 x.length)
  unfolding foretold
  foretold-full h = rw (lt-leb x.length room h)

  module _ (a : x.length ≤ room) where
    pub foretold-long : file_limit < x.length → foretold x room rows terms ≡ unread (refusal 1 0)
    unfolding foretold
    foretold-long h = rw (le-leb x.length room a, lt-leb x.length file_limit h)

    module _ (b : x.length ≤ file_limit) where
      pub foretold-rows : rows < x.lines → foretold x room rows terms ≡ unread (refusal 9 x.lines)
      unfolding foretold
      foretold-rows h = rw (le-leb x.length room a, le-leb x.length file_limit b, lt-leb x.lines rows h)

      module _ (c : x.lines ≤ rows) where
        pub foretold-terms : terms < x.terms → foretold x room rows terms ≡ unread (refusal 10 x.terms)
        unfolding foretold
        foretold-terms h =
            rw (le-leb x.length room a, le-leb x.length file_limit b, le-leb x.lines rows c, lt-leb x.terms terms h)

        pub foretold-back : x.terms ≤ terms → foretold x room rows terms ≡ back x.length (totals_of x.lines x.terms)
        unfolding foretold
        foretold-back h =
            rw (le-leb x.length room a, le-leb x.length file_limit b, le-leb x.lines rows c, le-leb x.terms terms h)

-- ---- the items that the rows come to

module _ (m : Mode) (t : Table) (text : List ℕ) where
  record Items (x : Extent) : Type 0 where
    items : List Item
    are : row_by_row (written_in m t text) 0 (entries t) ≡ accepted items
    extent : x ≡ extents_of m items

  items_of : (x : Extent) → accepted x ≡ extent_for m t text → Items x
  items_of x e = by (row_by_row (written_in m t text) 0 (entries t)) refl e
    where
      by : (os : Outcome (List Item)) → row_by_row (written_in m t text) 0 (entries t) ≡ os → accepted x ≡ extent_by m os → Items x
      by (refused r) p q = never (cc)
      by (accepted is) p q = record { items = is; are = p; extent = cc }

  pub refused-before : (room : ℕ) (x : Refusal) (new : Table) → refused x ≡ extent_for m t text
      → unwritten x ≡ returning m new (writing m t text room)
  unfolding writing
  refused-before room x new e = by (row_by_row (written_in m t text) 0 (entries t)) refl e
    where
      by : (os : Outcome (List Item)) → row_by_row (written_in m t text) 0 (entries t) ≡ os → refused x ≡ extent_by m os
          → unwritten x ≡ returning m new (writing m t text room)
      by (refused r) w q = let k : x ≡ r = cc in rw w (ap unwritten k)
      by (accepted is) w q = never (cc)

  module _ (room : ℕ) (new : Table) (small : room < needed_limit) (few : row_room new < needed_limit)
      (short : term_room new < needed_limit) (x : Extent) (e : accepted x ≡ extent_for m t text) where
    known : Items x
    known = items_of x e

    abbrev s : List ℕ
    s = joined (item_text m) known.items

    long : x.length ≡ needed (length s)
    long = ap (λ (y : Extent). y.length) known.extent

    written : writing m t text room ≡ fitted_text room s
    unfolding writing
    written = rw known.are

    module _ (fits : length s ≤ room) where
      wrote : writing m t text room ≡ accepted s
      wrote = written ∙ rw (le-leb (length s) room fits)

      length-is : x.length ≡ length s
      unfolding needed
      length-is = omega (arith, long)

      there : ThereAndBack m t text s
      there = there_and_back m t text room s wrote

      same-items : there.items ≡ known.items
      same-items = let k : accepted there.items ≡ accepted known.items = sym there.asked ∙ known.are in cc

      lines_are : x.lines ≡ needed (length there.lines)
      lines_are = ap (λ (y : Extent). y.lines) known.extent ∙ ap needed (sym (there.many ∙ ap (total (lines_back m)) same-items))

      terms-are : x.terms ≡ needed (length (all_terms there.lines))
      terms-are = ap (λ (y : Extent). y.terms) known.extent ∙ ap needed (sym (there.terms ∙ ap (total terms_back) same-items))

      answered : (o : Outcome (List Line)) → reading (options_of m) s new ≡ o
          → returning m new (writing m t text room) ≡ read_back s (counted o)
      answered o q = rw wrote (ap (λ (z : Outcome (List Line)). read_back s (counted z)) q)

      too_long : file_limit < length s → reading (options_of m) s new ≡ refused (refusal 1 0)
      unfolding reading file fitted
      too_long h = rw (lt-leb (length s) file_limit h)

      module _ (within : length s ≤ file_limit) where
        no_rows : row_room new < length there.lines → reading (options_of m) s new ≡ refused (refusal 9 (needed (length there.lines)))
        unfolding fitted
        no_rows h = there.read within new ∙ rw (lt-leb (length there.lines) (row_room new) h)

        no-terms : length there.lines ≤ row_room new → term_room new < length (all_terms there.lines)
            → reading (options_of m) s new ≡ refused (refusal 10 (needed (length (all_terms there.lines))))
        unfolding fitted
        no-terms g h =
            there.read within new
            ∙ rw (le-leb (length there.lines) (row_room new) g, lt-leb (length (all_terms there.lines)) (term_room new) h)

        abbrev said : Return
        said = foretold x room (row_room new) (term_room new)

        l-room : x.length ≤ room
        l-room = omega (arith, length-is)

        l-file : x.length ≤ file_limit
        l-file = omega (arith, length-is)

        read_back_lem : said ≡ returning m new (writing m t text room)
        unfolding needed
        read_back_lem = rows (leb (length there.lines) (row_room new)) refl
          where
            terms : (g : length there.lines ≤ row_room new) (b : Bool) → leb (length (all_terms there.lines)) (term_room new) ≡ b
                → said ≡ returning m new (writing m t text room)
            terms g true q =
                let h : length (all_terms there.lines) ≤ term_room new = leb-true _ _ q in
                let n : x.lines ≡ length there.lines = omega (arith, lines_are) in
                let k : x.terms ≡ length (all_terms there.lines) = omega (arith, terms-are) in
                foretold-back x room (row_room new) (term_room new) l-room l-file (omega arith) (omega arith)
                ∙ ap₂ back length-is (ap₂ totals_of n k)
                ∙ sym (answered (accepted there.lines) (there.succeeds within new g h))
            terms g false q =
                let h : term_room new < length (all_terms there.lines) = leb-false _ _ q in
                foretold-terms x room (row_room new) (term_room new) l-room l-file (omega (arith, lines_are)) (omega (arith, terms-are))
                ∙ ap (λ (y : ℕ). unread (refusal 10 y)) terms-are
                ∙ sym (answered (refused (refusal 10 (needed (length (all_terms there.lines))))) (no-terms g h))

            rows : (b : Bool) → leb (length there.lines) (row_room new) ≡ b → said ≡ returning m new (writing m t text room)
            rows true q = terms (leb-true _ _ q) (leb (length (all_terms there.lines)) (term_room new)) refl
            rows false q =
                let h : row_room new < length there.lines = leb-false _ _ q in
                foretold-rows x room (row_room new) (term_room new) l-room l-file (omega (arith, lines_are))
                ∙ ap (λ (y : ℕ). unread (refusal 9 y)) lines_are
                ∙ sym (answered (refused (refusal 9 (needed (length there.lines)))) (no_rows h))

      file-read : (b : Bool) → leb (length s) file_limit ≡ b
          → foretold x room (row_room new) (term_room new) ≡ returning m new (writing m t text room)
      file-read true q = read_back_lem (leb-true _ _ q)
      file-read false q =
          let h : file_limit < length s = leb-false _ _ q in
          foretold-long x room (row_room new) (term_room new) (omega (arith, length-is)) (omega (arith, length-is))
          ∙ sym (answered (refused (refusal 1 0)) (too_long h))

    pub foretold-is : foretold x room (row_room new) (term_room new) ≡ returning m new (writing m t text room)
    unfolding needed
    foretold-is = by (leb (length s) room) refl
      where
        by : (b : Bool) → leb (length s) room ≡ b → foretold x room (row_room new) (term_room new) ≡ returning m new (writing m t text room)
        by true q = file-read (leb-true _ _ q) (leb (length s) file_limit) refl
        by false q =
            let h : room < length s = leb-false _ _ q in
            let w : writing m t text room ≡ refused (refusal 14 (needed (length s))) = written ∙ rw q in
            foretold-full x room (row_room new) (term_room new) (omega (arith, long)) ∙ ap (λ (y : ℕ). unwritten (refusal 14 y)) long
            ∙ sym (ap (returning m new) w)
