-- The whole listing: the length that the code counts is the length needed, and the head with the lines behind it is the
-- text.
use Rattle.std.specs.Prelude.{Ok, Err}
use mathlib.Core.Path.{◌≡◌, refl, ap, ◌∙◌}
use mathlib.Core.List.{List, [], ◌∷◌, ◌++◌}
use Prim.Native.Nat.{ℕ, zero, suc, ◌+◌, ◌≤◌, ◌<◌}
use native.Mathlib.Omega.{arith}
use native.Mathlib.Decide.{dec_le}
use borrow.Author.Tests.{le-leb, lt-leb}
use lib.ListN.{length, take, length-append, length-take}
use Rattle.definitions.specs.Lists.{joined}
use Rattle.definitions.specs.Limits.{needed_limit}
use Rattle.definitions.specs.Refusal.{refusal, Checked, refuse, accept, needed}
use Rattle.definitions.specs.Row.{Term, Line, comment, row, terms_of}
use Rattle.definitions.specs.Table.{Table, row_room, Outcome, refused, accepted, all_terms, entries, on_row, row_by_row}
use Rattle.definitions.specs.Write.{fitted_text, output_after}
use Rattle.definitions.specs.House.{term_fields, house_line, listed_entry, listing_table}
use Rattle.laws.proofs.Puts.{Puts, rest-room, puts_then, puts-as, needed-add}
use Rattle.columns.proofs.EntryLaws.{entries-count}
use Rattle.definitions.specs.declared.Refusal.{Refusal}
use Rattle.definitions.proofs.Truths.{never}
use Rattle.house_lengths.specs.Words.{head_text}
use Rattle.house_lengths.proofs.Fields.{term-fields-length}
use Rattle.house_lengths.proofs.WordLaws.{line-length, text, is-listing, text-length}
use Rattle.house_measures.specs.Lines.{lines_of}
use Rattle.house_measures.specs.Sizes.{Sizes, sizes_of, sizes_in}
use Rattle.house.specs.Ready.{RowsReady}
use Rattle.house.specs.ListsTable.{Lists}

-- ---- what the sizes were counted of

pub refused-sizes : (first : ℕ) (q : Refusal) (x : Outcome (List Line)) → refused q ≡ sizes_in first x → x ≡ refused q
refused-sizes first q (refused r) e = cc
refused-sizes first q (accepted ls) e = never (cc)

pub record Counted (first : ℕ) (x : Outcome (List Line)) (s : Sizes) : Type 0 where
  pub lines : List Line
  pub are : x ≡ accepted lines
  pub sizes : s ≡ sizes_of first lines

pub accepted-sizes : (first : ℕ) (x : Outcome (List Line)) (s : Sizes) → accepted s ≡ sizes_in first x → Counted first x s
accepted-sizes first (refused r) s e = never (cc)
accepted-sizes first (accepted ls) s e = record { lines = ls; are = refl; sizes = cc }

-- ---- the rows that there are

accepted-count : {A B : Type 0} (f : A → Checked B) (i : ℕ) (l : List A) (bs : List B) → row_by_row f i l ≡ accepted bs → length bs ≡ length l
unfolding row_by_row
accepted-count f i [] bs e = let q : bs ≡ [] = cc in ap length q
accepted-count {A} {B} f i (a ∷ l) bs e = by (f a) (row_by_row f (i + 1) l) e (λ cs q. accepted-count f (i + 1) l cs q)
  where
    by : (c : Checked B) (o : Outcome (List B)) → on_row i c o ≡ accepted bs
        → ((cs : List B) → o ≡ accepted cs → length cs ≡ length l) → length bs ≡ suc (length l)
    by (refuse n) o e ih = never (cc)
    by (accept b) (refused r) e ih = never (cc)
    by (accept b) (accepted cs) e ih = let q : bs ≡ b ∷ cs = cc in ap length q ∙ ap suc (ih cs refl)

take-taken : {A : Type 0} (n : ℕ) (l : List A) → take (length (take n l)) l ≡ take n l
take-taken zero l = refl
take-taken (suc n) [] = refl
take-taken {A} (suc n) (a ∷ l) = ap (λ (r : List A). a ∷ r) (take-taken n l)

module _ (first n : ℕ) (t : Table) (ls : List Line) (e : lines_of first n t ≡ accepted ls) where
  count-is : length ls ≡ length (take n (entries t))
  count-is = accepted-count (listed_entry first t) 0 (take n (entries t)) ls e

  pub count-within : length ls ≤ row_room t
  count-within = omega (arith, count-is, length-take n (entries t), entries-count t)

  -- as many as were accepted
  pub counted-lines : lines_of first (length ls) t ≡ accepted ls
  counted-lines = rw (count-is, take-taken n (entries t)) e

-- ---- a term takes a byte or more

terms-most : (first : ℕ) (ts : List Term) → length ts ≤ length (joined (term_fields first) ts)
unfolding joined
terms-most first [] = omega arith
terms-most first (t ∷ ts) =
    omega (
      arith,
      terms-most first ts,
      length-append (term_fields first t) (joined (term_fields first) ts),
      term-fields-length
          first t.weight t.code,
    )

line-most : (first : ℕ) (l : Line) → length (terms_of l) ≤ length (house_line first l)
line-most first (comment f n b) = omega arith
line-most first (row r) = omega (arith, terms-most first r.terms, line-length first r.kind r.bound r.terms)

lines-most : (first : ℕ) (ls : List Line) → length (all_terms ls) ≤ length (joined (house_line first) ls)
unfolding joined
lines-most first [] = omega arith
lines-most first (l ∷ ls) =
    omega (
      arith,
      lines-most first ls,
      line-most first l,
      length-append (terms_of l) (all_terms ls),
      length-append
          (house_line first l) (joined (house_line first) ls),
    )

-- ---- the length that is needed

module _ (first : ℕ) (ls : List Line) where
  -- the count of terms is cut only where the length is, too
  pub whole-needed : needed (needed (length (joined (house_line first) ls)) + length
      (head_text (length ls) (needed (length (all_terms ls))) first)) ≡ needed (length (text first ls))
  whole-needed = cases (dec_le (length (all_terms ls)) needed_limit)
    where
      cut : (n : ℕ) → n ≤ needed_limit → needed n ≡ n
      cut n h = unfold needed in omega arith

      beyond : (b m w : ℕ) → needed_limit < b → b ≤ w → needed (needed b + m) ≡ needed w
      beyond b m w h g = unfold needed in omega arith

      cases : Dec (length (all_terms ls) ≤ needed_limit)
          → needed (needed (length (joined (house_line first) ls)) + length
          (head_text (length ls) (needed (length (all_terms ls))) first)) ≡ needed (length (text first ls))
      cases (yes h) = rw (cut (length (all_terms ls)) h, needed-add) (ap needed (omega (arith, text-length first ls)))
      cases (no h) = beyond (length (joined (house_line first) ls)) _ (length (text first ls))
          (omega (arith, lines-most first ls)) (omega (arith, text-length first ls))

  -- where the length needed fits, the text does, and nothing was cut
  module _ (w room : ℕ) (e : w ≡ needed (length (text first ls))) (h : w ≤ room) (g : room < needed_limit) where
    pub text-fits : length (text first ls) ≤ room
    unfolding needed
    text-fits = omega (arith, e)

    pub terms-whole : needed (length (all_terms ls)) ≡ length (all_terms ls)
    unfolding needed
    terms-whole = omega (arith, lines-most first ls, text-length first ls, text-fits)

-- ---- what is answered

module _ (first n : ℕ) (t : Table) (o : List ℕ) where
  pub lists-refused : (q : Refusal) → lines_of first n t ≡ refused q → Lists first n t o (Err q) o
  unfolding listing_table output_after
  lists-refused q e = record { answer = rw e; after = rw e }

  module _ (ls : List Line) (e : lines_of first n t ≡ accepted ls) where
    outcome : listing_table first n t (length o) ≡ fitted_text (length o) (text first ls)
    unfolding listing_table
    outcome = rw (e, is-listing first ls)

    pub lists-full : (w : ℕ) → w ≡ needed (length (text first ls)) → length o < w → Lists first n t o (Err (refusal 14 w)) o
    unfolding output_after
    lists-full w q h =
        let f : length o < length (text first ls) = unfold needed in omega (arith, q) in
        let l = lt-leb (length (text first ls)) (length o) f in
        record { answer = rw (outcome, l, q); after = rw (outcome, l) }

    pub lists-all : (end : ℕ) (o' : List ℕ) → length (text first ls) ≤ length o → Puts (text first ls) 0 o end o'
        → Lists first n t o (Ok end) o'
    unfolding output_after
    lists-all end o' h p =
        let l = le-leb (length (text first ls)) (length o) h in
        let z : 0 + length (text first ls) ≡ length (text first ls) = omega arith in
        record {
          answer = rw (outcome, l) (ap accepted (p.place ∙ z));
          after = p.after ∙ rw (outcome, l, z);
        }

-- ---- what the code counts: r rows, m terms and a length of k, and w with the head

module _ (first n : ℕ) (t : Table) (o : List ℕ) (r m k : ℕ)
    (c : Counted first (lines_of first n t) (record { rows = r; all = record { terms = m; length = k } }))
    (w : ℕ) (e : w ≡ needed (k + length (head_text r m first))) where
  rows_are : r ≡ length c.lines
  rows_are = ap (λ (z : Sizes). z.rows) c.sizes

  terms-are : m ≡ needed (length (all_terms c.lines))
  terms-are = ap (λ (z : Sizes). z.all.terms) c.sizes

  length-is : k ≡ needed (length (joined (house_line first) c.lines))
  length-is = ap (λ (z : Sizes). z.all.length) c.sizes

  is-needed : w ≡ needed (length (text first c.lines))
  is-needed = e ∙ go c.lines rows_are terms-are length-is
    where
      go : (ls : List Line) → r ≡ length ls → m ≡ needed (length (all_terms ls))
          → k ≡ needed (length (joined (house_line first) ls)) → needed (k + length (head_text r m first)) ≡ needed (length (text first ls))
      go ls a b d = rw (a, b, d) (whole-needed first ls)

  pub listing_full : length o < w → Lists first n t o (Err (refusal 14 w)) o
  listing_full h = lists-full first n t o c.lines c.are w is-needed h

  module _ (h : w ≤ length o) (g : length o < needed_limit) where
    fits : length (text first c.lines) ≤ length o
    fits = text-fits first c.lines w (length o) is-needed h g

    head-is : head_text r m first ≡ head_text (length c.lines) (length (all_terms c.lines)) first
    head-is = go c.lines rows_are (terms-are ∙ terms-whole first c.lines w (length o) is-needed h g)
      where
        go : (ls : List Line) → r ≡ length ls → m ≡ length (all_terms ls)
            → head_text r m first ≡ head_text (length ls) (length (all_terms ls)) first
        go ls a b = rw (a, b)

    pub head-room : length (head_text r m first) ≤ length o
    head-room = omega (arith, fits, text-length first c.lines, ap length head-is)

    abbrev body : List ℕ
    body = joined (house_line first) c.lines

    room : 0 + length (head_text r m first ++ body) ≤ length o
    room = omega (arith, fits, text-length first c.lines, ap length head-is, length-append (head_text r m first) body)

    lines_are : lines_of first r t ≡ accepted c.lines
    lines_are = ap (λ (x : ℕ). lines_of first x t) rows_are ∙ counted-lines first n t c.lines c.are

    module _ {at : ℕ} {o₁ : List ℕ} (p : Puts (head_text r m first) 0 o at o₁) where
      pub lines-ready : RowsReady first r t at o₁
      lines-ready =
          record {
            within = omega (arith, rows_are, count-within first n t c.lines c.are);
            lines = c.lines;
            are = lines_are;
            room = rest-room p body room;
          }

      pub listing-all : {end : ℕ} {o₂ : List ℕ}
          → ((ls : List Line) → lines_of first r t ≡ accepted ls → Puts (joined (house_line first) ls) at o₁ end o₂) → Lists first
          n t o (Ok end) o₂
      listing-all {end} {o₂} f =
          let q = puts_then p (omega (arith, head-room)) (f c.lines lines_are) in
          lists-all first n t o c.lines c.are end o₂ fits (puts-as q (ap (λ (x : List ℕ). x ++ body) head-is))
