-- Does a table hold the lines that were filled into it? Its rows, taken as the normaliser, the evaluator and the writer
-- take them, are the lines again.
use Prim.Native.Nat.{ℕ, ◌+◌, ◌≤◌}
use mathlib.Core.Path.{◌≡◌, refl, sym, ap, ◌∙◌}
use mathlib.Core.Bool.{true}
use mathlib.Core.List.{List, [], ◌∷◌, ◌++◌, map, append_assoc}
use native.Mathlib.Omega.{arith}
use borrow.Author.Tests.{le-leb}
use lib.ListN.{length, take, drop, length-append, length-map}
use lib.Seq.{take-append_seam, drop-append_seam}
use lib.IntN.{ℤ}
use Rattle.definitions.specs.Lists.{joined, AllOf}
use Rattle.definitions.specs.Refusal.{accept}
use Rattle.definitions.specs.Row.{Term, weight_of, literal_of, Line, comment, row, terms_of}
use Rattle.definitions.specs.declared.Kind.{Kind}
use Rattle.definitions.specs.declared.Kind.TheVariants.{AtLeast as at_least, AtMost as at_most, Equal as equal, Objective as objective}
use Rattle.definitions.specs.Table.{Table, term_room, accepted, kind_number, kind_in, first_in, count_in, bound_in, firsts_from}
use Rattle.definitions.specs.Table.{all_terms, filled, entries_of, entries, terms_on, terms_at, in_column, indexed}
use Rattle.definitions.specs.declared.Entry.{Entry}
use Rattle.definitions.specs.Table.{weighted, remark, sort_of, row_by_row, line_in}
use Rattle.definitions.specs.Write.{numbered}
use Rattle.definitions.proofs.Columns.{over-length}

-- the entry of a line with m terms before it
abbrev pub entry_for : ℕ → Line → Entry
entry_for m l = record { kind = kind_in l; first = first_in m l; count = count_in l; bound = bound_in l }

-- the entries of lines, the first of which has m terms before it
unfoldable pub entries_for : ℕ → List Line → List Entry
entries_for m [] = []
entries_for m (l ∷ ls) = entry_for m l ∷ entries_for (m + length (terms_of l)) ls

entries-front : (m : ℕ) (ls : List Line) (k f n : List ℕ) (b : List ℤ)
    → take (length ls) (entries_of (map kind_in ls ++ k) (firsts_from m ls ++ f) (map count_in ls ++ n) (map bound_in ls ++ b)) ≡ entries_for m ls
unfolding entries_of entries_for firsts_from
entries-front m [] k f n b = refl
entries-front m (l ∷ ls) k f n b = ap (λ (es : List Entry). entry_for m l ∷ es) (entries-front (m + length (terms_of l)) ls k f n b)

pub filled-entries : (ls : List Line) (t : Table) → take (length ls) (entries (filled ls t)) ≡ entries_for 0 ls
unfolding filled
filled-entries ls t = entries-front 0 ls _ _ _ _

-- ---- the terms
terms-front : (ts : List Term) (w : List ℤ) (c : List ℕ) → terms_on (map weight_of ts ++ w) (map literal_of ts ++ c) ≡ ts ++ terms_on w c
unfolding terms_on
terms-front [] w c = refl
terms-front (t ∷ ts) w c = ap (λ (l : List Term). t ∷ l) (terms-front ts w c)

terms-between : (pre ts post : List Term) → take (length ts) (drop (length pre) ((pre ++ (ts ++ post)))) ≡ ts
terms-between pre ts post = rw (drop-append_seam pre (ts ++ post), take-append_seam ts post)

-- every index within its limit
abbrev pub Indexed : Line → Type 0
Indexed l = indexed (terms_of l) ≡ true

-- every file number within its limit
abbrev pub Numbered : ℕ → Line → Type 0
Numbered first l = numbered first (terms_of l) ≡ true

module _ (all : List Line) (t : Table) (room : length (all_terms all) ≤ term_room t) where
  pub filled-term-room : term_room (filled all t) ≡ term_room t
  unfolding filled
  filled-term-room =
      let n = length (all_terms all) in
      let w = length-map (all_terms all) weight_of in
      let c = length-map (all_terms all) literal_of in
      rw (
        over-length (map weight_of (all_terms all)) t.weights (omega (arith, w)),
        over-length (map literal_of (all_terms all)) t.literals (omega (arith, c)),
      )

  filled-terms : terms_on (filled all t).weights (filled all t).literals
      ≡ all_terms all ++ terms_on (drop (length (map weight_of (all_terms all))) t.weights)
      (drop (length (map literal_of (all_terms all))) t.literals)
  unfolding filled
  filled-terms = terms-front (all_terms all) _ _

  -- a row of k terms, with the terms pre before it
  filled-terms-at : (pre ts post : List Term) (e : Entry) → all_terms all ≡ pre ++ (ts ++ post) → e.first ≡ length pre
      → e.count ≡ length ts → terms_at (filled all t) e ≡ ts
  filled-terms-at pre ts post e q f n =
      let rest = terms_on (drop (length (map weight_of (all_terms all))) t.weights)
      (drop (length (map literal_of (all_terms all))) t.literals) in
      let at : List Term → List Term = λ (l : List Term). take e.count (drop e.first l) in
      ap at filled-terms ∙ ap (λ (l : List Term). at (l ++ rest)) q
      ∙ rw (f, n, append_assoc pre (ts ++ post) rest, append_assoc ts post rest) (terms-between pre ts (post ++ rest))

  filled-in-column : (pre ts post : List Term) (e : Entry) → all_terms all ≡ pre ++ (ts ++ post) → e.first ≡ length pre
      → e.count ≡ length ts → in_column (filled all t) e ≡ true
  filled-in-column pre ts post e q f n =
      le-leb (e.first + e.count) (term_room (filled all t))
      (omega (arith, filled-term-room, room, ap length q, length-append pre (ts ++ post), length-append ts post))

  sort-of-kind : (k : Kind) → sort_of (kind_number k) ≡ weighted k
  unfolding sort_of
  sort-of-kind at_least = refl
  sort-of-kind at_most = refl
  sort-of-kind equal = refl
  sort-of-kind objective = refl

  sort-of-comment : sort_of 0 ≡ remark
  unfolding sort_of
  sort-of-comment = refl

  line-back : (pre : List Term) (l : Line) (post : List Term) → Indexed l → all_terms all ≡ pre ++ (terms_of l ++ post)
      → line_in (filled all t) (entry_for (length pre) l) ≡ accept l
  unfolding line_in
  line-back pre (comment f n b) post i q = rw sort-of-comment
  line-back pre (row r) post i q =
      let e : Entry = record { kind = kind_number r.kind; first = length pre; count = length r.terms; bound = r.bound } in
      rw (sort-of-kind r.kind, filled-in-column pre r.terms post e q refl refl, filled-terms-at pre r.terms post e q refl refl, i)

  pub rows_back : (i : ℕ) (pre : List Term) (ls : List Line) → AllOf Indexed ls → all_terms all ≡ pre ++ all_terms ls
      → row_by_row (line_in (filled all t)) i (entries_for (length pre) ls) ≡ accepted ls
  unfolding row_by_row entries_for joined
  rows_back i pre [] g q = refl
  rows_back i pre (l ∷ ls) g q =
      let here = line-back pre l (all_terms ls) g.0 q in
      let n : length pre + length (terms_of l) ≡ length (pre ++ terms_of l) = sym (length-append pre (terms_of l)) in
      let there = rows_back (i + 1) (pre ++ terms_of l) ls g.1 (q ∙ sym (append_assoc pre (terms_of l) (all_terms ls))) in
      rw (here, n, there)
