-- What an entry says of its line: the terms that it has, and where they begin. And the entries of a table, in words of
-- its four columns of rows.
use mathlib.Core.Path.{◌≡◌, refl}
use mathlib.Core.List.{List, [], ◌∷◌}
use Prim.Native.Nat.{ℕ, zero, suc, ◌+◌, ◌≤◌, ◌<◌, min}
use native.Mathlib.Numerals.{add-one}
use native.Mathlib.Omega.{arith}
use lib.ListN.{length, get_or, drop, drop_of_length-le}
use lib.IntN.{ℤ, pos}
use Rattle.definitions.specs.Row.{Line, comment, row, terms_of}
use Rattle.definitions.specs.declared.Kind.{Kind}
use Rattle.definitions.specs.declared.Kind.TheVariants.{AtLeast as at_least, AtMost as at_most, Equal as equal, Objective as objective}
use Rattle.definitions.specs.declared.Entry.{Entry}
use Rattle.definitions.specs.Table.{Table, kind_number, row_room, entries_of, entries}
use Rattle.columns.specs.Kinds.{terms_of_kind, first_of_kind}
use Rattle.columns.specs.Entries.{entry_alone}

-- ---- of a line

pub kind-terms : (k : Kind) (n : ℕ) → terms_of_kind (kind_number k) n ≡ n
kind-terms at_least n = refl
kind-terms at_most n = refl
kind-terms equal n = refl
kind-terms objective n = refl

pub kind-first : (k : Kind) (offset before : ℕ) → first_of_kind (kind_number k) offset before ≡ before
kind-first at_least offset before = refl
kind-first at_most offset before = refl
kind-first equal offset before = refl
kind-first objective offset before = refl

-- a comment's count is that of its bytes, and it has no terms
pub line-terms : (l : Line) → terms_of_kind (entry_alone l).kind (entry_alone l).count ≡ length (terms_of l)
line-terms (comment f n b) = refl
line-terms (row r) = kind-terms r.kind (length r.terms)

-- ---- of a table

-- what the four columns hold at i
abbrev pub entry_at : Table → ℕ → Entry
entry_at t i = record {
  kind = get_or t.kinds i 0;
  first = get_or t.firsts i 0;
  count = get_or t.counts i 0;
  bound = get_or t.bounds i (pos 0);
}

entries-of-count : (ks fs ns : List ℕ) (bs : List ℤ)
    → length (entries_of ks fs ns bs) ≡ min (length ks) (min (length fs) (min (length ns) (length bs)))
unfolding entries_of
entries-of-count [] fs ns bs = omega arith
entries-of-count (k ∷ ks) [] ns bs = omega arith
entries-of-count (k ∷ ks) (f ∷ fs) [] bs = omega arith
entries-of-count (k ∷ ks) (f ∷ fs) (n ∷ ns) [] = omega arith
entries-of-count (k ∷ ks) (f ∷ fs) (n ∷ ns) (b ∷ bs) = omega (arith, entries-of-count ks fs ns bs)

entries-of-from : (ks fs ns : List ℕ) (bs : List ℤ) (i : ℕ) → i < length ks → i < length fs → i < length ns → i < length bs
    → drop i (entries_of ks fs ns bs) ≡ record {
      kind = get_or ks i 0;
      first = get_or fs i 0;
      count = get_or ns i 0;
      bound = get_or bs i (pos 0);
    } ∷ drop (suc i) (entries_of ks fs ns bs)
unfolding entries_of
entries-of-from [] fs ns bs i hk hf hn hb = absurd (omega arith)
entries-of-from (k ∷ ks) [] ns bs i hk hf hn hb = absurd (omega arith)
entries-of-from (k ∷ ks) (f ∷ fs) [] bs i hk hf hn hb = absurd (omega arith)
entries-of-from (k ∷ ks) (f ∷ fs) (n ∷ ns) [] i hk hf hn hb = absurd (omega arith)
entries-of-from (k ∷ ks) (f ∷ fs) (n ∷ ns) (b ∷ bs) zero hk hf hn hb = refl
entries-of-from (k ∷ ks) (f ∷ fs) (n ∷ ns) (b ∷ bs) (suc i) hk hf hn hb =
    entries-of-from ks fs ns bs i (omega arith) (omega arith) (omega arith) (omega arith)

module _ (t : Table) where
  pub entries-count : length (entries t) ≡ row_room t
  entries-count = entries-of-count t.kinds t.firsts t.counts t.bounds

  pub entries_from : (i : ℕ) → i < row_room t → drop i (entries t) ≡ entry_at t i ∷ drop (i + 1) (entries t)
  entries_from i h =
      rw add-one (entries-of-from t.kinds t.firsts t.counts t.bounds i (omega arith) (omega arith) (omega arith) (omega arith))

  pub entries-end : (i : ℕ) → row_room t ≤ i → drop i (entries t) ≡ []
  entries-end i h = let g : length (entries t) ≤ i = omega (arith, entries-count) in drop_of_length-le (entries t) g
