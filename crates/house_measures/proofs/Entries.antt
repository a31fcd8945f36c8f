-- One entry of a table: which line it is, by its kind and its columns, and the size of that line.
use Rattle.std.specs.Prelude.{Option, Some, None}
use mathlib.Core.Path.{◌≡◌, refl, sym, ap, ◌∙◌}
use mathlib.Core.Bool.{Bool, true, false, cond}
use mathlib.Core.List.{List, []}
use Prim.Native.Nat.{ℕ, ◌+◌, ◌-◌, ◌≤◌, ◌<◌}
use native.Mathlib.Omega.{arith}
use native.Mathlib.Decide.{dec_le}
use borrow.Author.Tests.{eq-eqb, ne_eqb}
use lib.IntN.{ℤ}
use lib.ListN.{length, take, drop}
use Rattle.definitions.specs.Lists.{joined}
use Rattle.definitions.specs.Refusal.{Checked, refuse, accept, needed}
use Rattle.definitions.specs.Row.{Line, comment, row, row_of}
use Rattle.definitions.specs.Table.{Table, table, terms_on, in_column, indexed, sort_of, and_then, line_in}
use Rattle.definitions.specs.declared.Entry.{Entry}
use Rattle.definitions.specs.Write.{numbered}
use Rattle.definitions.specs.House.{term_fields, listed_line, listed_entry}
use Rattle.laws.proofs.Puts.{needed-add}
use Rattle.definitions.proofs.Truths.{never}
use Rattle.term_checks.specs.TermTests.{codes_indexed}
use Rattle.term_checks.proofs.Terms.{terms-count, weights_at, literals_at, terms-at, weights-at-count, literals-at-count, indexed-on}
use Rattle.house_measures.specs.declared.rows.Size.{Size}
use Rattle.columns.specs.Kinds.{read_kind}
use Rattle.columns.proofs.KindNumbers.{read-kind, unread-kind}
use Rattle.house_lengths.specs.Lengths.{line_length}
use Rattle.house_lengths.proofs.WordLaws.{comment-words, line-length}
use Rattle.house_measures.specs.Lines.{row_on, line_on}
use Rattle.house_measures.specs.Sizes.{terms_length, said_terms_length, size_of, size_in}

-- ---- the line of an entry

-- a check behind a test
then-cond : {A B : Type 0} (f : A → Checked B) (b : Bool) (a : A) (n : ℕ)
    → and_then (cond b (accept a) (refuse n)) f ≡ cond b (f a) (refuse n)
then-cond f true a n = refl
then-cond f false a n = refl

module _ (first : ℕ) (ws : List ℤ) (cs : List ℕ) (e : Entry) where
  abbrev pub on : Table
  on = table [] [] [] [] ws cs

  pub comment-entry : e.kind ≡ 0 → line_on first ws cs e ≡ accept (comment e.first e.count e.bound)
  unfolding listed_entry line_in sort_of
  comment-entry k = rw k

  pub unread-entry : 4 < e.kind → line_on first ws cs e ≡ refuse 11
  unfolding listed_entry line_in
  unread-entry h = rw (unread-kind e.kind on e h)

  module _ (h : e.kind ≡ 0 → ⊥) (g : e.kind ≤ 4) where
    pub outside-entry : in_column on e ≡ false → line_on first ws cs e ≡ refuse 11
    unfolding listed_entry line_in
    outside-entry i = rw ((read-kind e.kind h g).sort, i)

    pub inside-entry : in_column on e ≡ true → line_on first ws cs e ≡ row_on first e.kind e.bound (weights_at on e) (literals_at on e)
    unfolding listed_entry line_in
    inside-entry i =
        rw ((read-kind e.kind h g).sort, i, terms-at on e)
        (then-cond (listed_line first) (indexed (terms_on (weights_at on e) (literals_at on e))) _ 11)

  -- what an accepted entry has
  module _ (l : Line) (a : line_on first ws cs e ≡ accept l) where
    pub accepted-comment : e.kind ≡ 0 → l ≡ comment e.first e.count e.bound
    accepted-comment k = let q = comment-entry k in cc

    pub record ReadEntry : Type 0 where
      pub inside : in_column on e ≡ true
      pub long : length (weights_at on e) ≡ length (literals_at on e)
      pub numbers : numbered first (terms_on (weights_at on e) (literals_at on e)) ≡ true
      pub is : l ≡ row (row_of (read_kind e.kind) e.bound (terms_on (weights_at on e) (literals_at on e)))

    not-refused : line_on first ws cs e ≡ refuse 11 → ⊥
    not-refused q = let z : ◌≡◌ {A = ℕ} 0 1 = cc in omega arith

    pub accepted-row : (e.kind ≡ 0 → ⊥) → ReadEntry
    accepted-row h = known (dec_le e.kind 4)
      where
        passed : (b n : Bool) (r : Line) → cond b (cond n (accept r) (refuse 5)) (refuse 11) ≡ accept l → (n ≡ true) × (l ≡ r)
        passed true true r q = (refl, cc)
        passed true false r q = never (cc)
        passed false n r q = never (cc)

        inside : (g : e.kind ≤ 4) (b : Bool) → in_column on e ≡ b → ReadEntry
        inside g false i = absurd (not-refused (outside-entry h g i))
        inside g true i =
            let ts = terms_on (weights_at on e) (literals_at on e) in
            let p = passed (indexed ts) (numbered first ts) _ (sym (inside-entry h g i) ∙ a) in
            record { inside = i; long = weights-at-count on e i ∙ sym (literals-at-count on e i); numbers = p.0; is = p.1 }

        known : Dec (e.kind ≤ 4) → ReadEntry
        known (yes g) = inside g (in_column on e) refl
        known (no g) = absurd (not-refused (unread-entry (omega arith)))

-- ---- its size

size-eq : {n n' m m' : ℕ} → n ≡ n' → m ≡ m' → ◌≡◌ {A = Size} (record { terms = n; length = m }) (record { terms = n'; length = m' })
size-eq p q = cc

module _ (first : ℕ) (ws : List ℤ) (cs : List ℕ) where
  pub comment-sized : (e : Entry) (n : ℕ) → e.kind ≡ 0 → n ≡ line_length e.kind e.count e.bound 0
      → accept (record { terms = 0; length = n }) ≡ size_in first (line_on first ws cs e)
  comment-sized e n k q =
      rw (comment-entry first ws cs e k, comment-words first e.first e.count e.bound)
      (ap accept (size-eq refl (q ∙ rw (eq-eqb e.kind 0 k))))

  module _ (k : ℕ) (b : ℤ) (long : length ws ≡ length cs) where
    pub row-refused : codes_indexed cs ≡ false → refuse 11 ≡ size_in first (row_on first k b ws cs)
    row-refused i = rw (indexed-on ws cs long, i)

    -- the length of its terms is counted, or they have no file numbers
    module _ (r : Option ℕ) (i : codes_indexed cs ≡ true) (e : said_terms_length r ≡ terms_length first (terms_on ws cs)) where
      pub row-unnumbered : r ≡ None → refuse 5 ≡ size_in first (row_on first k b ws cs)
      row-unnumbered q = rw (indexed-on ws cs long, i) (by (numbered first (terms_on ws cs)) _ _ (sym (ap said_terms_length q) ∙ e))
        where
          by : (x : Bool) (l : Line) (n : ℕ) → refuse 5 ≡ cond x (accept n) (refuse 5)
              → refuse 5 ≡ size_in first (cond x (accept l) (refuse 5))
          by true l n p = never (cc)
          by false l n p = refl

      pub row_sized : (n m t : ℕ) → 0 < k → r ≡ Some t → n ≡ length cs → m ≡ line_length k n b t
          → accept (record { terms = n; length = m }) ≡ size_in first (row_on first k b ws cs)
      row_sized n m t pos q p s =
          rw (indexed-on ws cs long, i) (by (numbered first (terms_on ws cs)) (sym (ap said_terms_length q) ∙ e))
        where
          counted : t ≡ needed (length (joined (term_fields first) (terms_on ws cs)))
              → record { terms = n; length = m } ≡ size_of first (row (row_of (read_kind k) b (terms_on ws cs)))
          counted h =
              size-eq (omega (arith, p, terms-count ws cs, long))
              (s ∙ rw (ne_eqb k 0 (λ z. omega (arith, z)), h, needed-add, line-length first (read_kind k) b (terms_on ws cs)))

          by : (x : Bool) → accept t ≡ cond x (accept (needed (length (joined (term_fields first) (terms_on ws cs))))) (refuse 5)
              → accept (record { terms = n; length = m }) ≡ size_in first
              (cond x (accept (row (row_of (read_kind k) b (terms_on ws cs)))) (refuse 5))
          by true h = ap accept (counted cc)
          by false h = never (cc)

-- the size of the line of an entry that is a row, its terms from their part of the two columns
module _ (first : ℕ) (ws : List ℤ) (cs : List ℕ) (e : Entry) (pos : 0 < e.kind) (g : e.kind ≤ 4)
    (i : in_column (on first ws cs e) e ≡ true) where
  abbrev us : List ℤ
  us = weights_at (on first ws cs e) e

  abbrev ds : List ℕ
  ds = literals_at (on first ws cs e) e

  long : length us ≡ length ds
  long = weights-at-count (on first ws cs e) e i ∙ sym (literals-at-count (on first ws cs e) e i)

  is-row : size_in first (row_on first e.kind e.bound us ds) ≡ size_in first (line_on first ws cs e)
  is-row = ap (size_in first) (sym (inside-entry first ws cs e (λ z. omega (arith, z)) g i))

  pub line-refused : codes_indexed ds ≡ false → refuse 11 ≡ size_in first (line_on first ws cs e)
  line-refused q = row-refused first us ds e.kind e.bound long q ∙ is-row

  module _ (r : Option ℕ) (q : codes_indexed ds ≡ true) (l : said_terms_length r ≡ terms_length first (terms_on us ds)) where
    pub line-unnumbered : r ≡ None → refuse 5 ≡ size_in first (line_on first ws cs e)
    line-unnumbered x = row-unnumbered first us ds e.kind e.bound long r q l x ∙ is-row

    pub line-sized : (m t : ℕ) → r ≡ Some t → m ≡ line_length e.kind e.count e.bound t
        → accept (record { terms = e.count; length = m }) ≡ size_in first (line_on first ws cs e)
    line-sized m t x s =
        row_sized first us ds e.kind e.bound long r q l e.count m t pos x (sym (literals-at-count (on first ws cs e) e i)) s
        ∙ is-row

-- the same, by the parts of the columns as the code lends them
module _ (first : ℕ) (ws : List ℤ) (cs : List ℕ) (e : Entry) (pos : 0 < e.kind) (g : e.kind ≤ 4)
    (i : in_column (on first ws cs e) e ≡ true) where
  abbrev lent : {A : Type 0} → List A → List A
  lent l = take (e.first + e.count - e.first) (drop e.first l)

  part : e.first + e.count - e.first ≡ e.count
  part = omega arith

  pub lent-refused : codes_indexed (lent cs) ≡ false → refuse 11 ≡ size_in first (line_on first ws cs e)
  lent-refused q = line-refused first ws cs e pos g i (rw part at q)

  pub lent-unnumbered : (r : Option ℕ) → codes_indexed (lent cs) ≡ true
      → said_terms_length r ≡ terms_length first (terms_on (lent ws) (lent cs)) → r ≡ None
      → refuse 5 ≡ size_in first (line_on first ws cs e)
  lent-unnumbered r q l x = line-unnumbered first ws cs e pos g i r (rw part at q) (rw part at l) x

  pub lent-sized : (r : Option ℕ) → codes_indexed (lent cs) ≡ true
      → said_terms_length r ≡ terms_length first (terms_on (lent ws) (lent cs)) → (m t : ℕ) → r ≡ Some t
      → m ≡ line_length e.kind e.count e.bound t
      → accept (record { terms = e.count; length = m }) ≡ size_in first (line_on first ws cs e)
  lent-sized r q l m t x s = line-sized first ws cs e pos g i r (rw part at q) (rw part at l) m t x s

-- what `measure_line` comes to in each of its cases
pub ruleset by_line = (lent-refused, lent-unnumbered, lent-sized)
