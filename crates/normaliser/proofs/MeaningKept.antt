-- What an accepted answer means. The rows of the table lent are lines; the first rows of the table left are those lines
-- made normal, one for one. For every assignment each constraint holds exactly where it held and each objective has the
-- value that it had; no weight is below 0; and normalising what is left would change nothing more.
use Rattle.std.specs.Prelude.{Ok}
use Prim.Native.Nat.{ℕ}
use mathlib.Core.Path.{◌≡◌, refl, sym, ap, ap₂, ◌∙◌}
use mathlib.Core.Bool.{Bool, true, false, cond, ◌&&◌}
use mathlib.Core.List.{List, [], ◌∷◌, map}
use native.Mathlib.Omega.{arith}
use lib.Dec.{leb}
use lib.ListN.{length, take, length-map, length-append}
use Rattle.definitions.specs.Lists.{joined, AllOf}
use Rattle.definitions.specs.Limits.{weight_limit, in_i64}
use Rattle.definitions.specs.Refusal.{Checked, refuse, accept}
use Rattle.definitions.specs.Row.{Line, comment, row, terms_of, sizes}
use Rattle.definitions.specs.declared.Kind.{Kind}
use Rattle.definitions.specs.declared.Kind.TheVariants.{AtLeast as at_least, AtMost as at_most, Equal as equal, Objective as objective}
use Rattle.definitions.specs.Table.{Table, table, Outcome, refused, accepted, all_terms, filled, totals_of, counted, after, entries}
use Rattle.definitions.specs.Table.{indexed, terms_at, in_column, Sort, remark, clause, unknown, weighted, cardinality, sort_of}
use Rattle.definitions.specs.Table.{line_by, line_in, and_then, row_by_row}
use Rattle.definitions.specs.declared.Totals.{Totals}
use Rattle.definitions.specs.declared.Entry.{Entry}
use Rattle.definitions.specs.Meaning.{Assignment, holds, value_of}
use Rattle.definitions.specs.Normal.{normal_term, normal, normal_line, normal_in, normalising}
use Rattle.definitions.specs.Write.{weighs}
use Rattle.definitions.proofs.Meanings.{normal-holds, normal-value}
use Rattle.normaliser.specs.Meant.{Meaning, meaning_by, goal, meaning_of, normalised}
use Rattle.definitions.proofs.Columns.{Fits, rows_both, rows-again, fitted-accepted}
use Rattle.laws.proofs.Tables.{Indexed}
use Rattle.laws.proofs.FilledTables.{filled-back}
use Rattle.definitions.proofs.Accepted.{rows-accepted}
use Rattle.definitions.proofs.Normals.{terms-indexed, normal-weighs, normal-line-twice}
use Rattle.tables.specs.Lent.{table_of}
use Rattle.normaliser.proofs.normalise.Reads as normalise

-- ---- one line

pub meaning-kept : (a : Assignment) (l : Line) → meaning_of a (normalised l) ≡ meaning_of a l
unfolding meaning_of normalised normal
meaning-kept a (comment f n b) = refl
meaning-kept a (row r) = by r.kind refl
  where
    by : (k : Kind) → r.kind ≡ k → meaning_by k (holds a (normal r)) (value_of a (normal r)) ≡ meaning_by k (holds a r) (value_of a r)
    by at_least e = ap (λ (h : Bool). meaning_by at_least h (value_of a r)) (normal-holds a r)
    by at_most e = ap (λ (h : Bool). meaning_by at_most h (value_of a r)) (normal-holds a r)
    by equal e = ap (λ (h : Bool). meaning_by equal h (value_of a r)) (normal-holds a r)
    by objective e = ap goal (normal-value a r e)

-- what normalising accepts is the normal line
line-normalised : (l y : Line) → normal_line l ≡ accept y → y ≡ normalised l
unfolding normalised
line-normalised (comment f n b) y e = cc
line-normalised (row r) y e = by (leb (sizes r.terms) weight_limit && in_i64 (normal r).bound) e
  where
    by : (b : Bool) → cond b (accept (row (normal r))) (refuse 8) ≡ accept y → y ≡ row (normal r)
    by true e = cc
    by false e = let z : ◌≡◌ {A = ℕ} 0 1 = cc in absurd (omega arith)

line-weighs : (l : Line) → weighs (terms_of (normalised l)) ≡ true
unfolding normalised weighs
line-weighs (comment f n b) = refl
line-weighs (row r) = normal-weighs r

line-terms : (l : Line) → length (terms_of (normalised l)) ≡ length (terms_of l)
unfolding normalised normal
line-terms (comment f n b) = refl
line-terms (row r) = length-map r.terms normal_term

-- ---- a line that a table holds has no index above its limit

line-indexed : (t : Table) (e : Entry) (l : Line) → line_in t e ≡ accept l → Indexed l
unfolding line_in indexed
line-indexed t e l q = by (sort_of e.kind) q
  where
    refused-by : {n : ℕ} → refuse n ≡ accept l → Indexed l
    refused-by q = let z : ◌≡◌ {A = ℕ} 0 1 = cc in absurd (omega arith)

    by : (s : Sort) → line_by s t e ≡ accept l → Indexed l
    by remark q = let z : l ≡ comment e.first e.count e.bound = cc in rw z
    by clause q = refused-by q
    by unknown q = refused-by q
    by (cardinality k) q = refused-by q
    by (weighted k) q = on (in_column t e) (indexed (terms_at t e)) refl q
      where
        on : (b d : Bool) → indexed (terms_at t e) ≡ d → cond (b && d) (accept (row (record {
          kind = k;
          bound = e.bound;
          terms = terms_at t e;
        }))) (refuse 11) ≡ accept l → Indexed l
        on true true p q = let z : l ≡ row (record { kind = k; bound = e.bound; terms = terms_at t e }) = cc in rw z p
        on true false p q = refused-by q
        on false d p q = refused-by q

normalised-indexed : (l : Line) → Indexed l → Indexed (normalised l)
unfolding normalised normal
normalised-indexed (comment f n b) h = h
normalised-indexed (row r) h = terms-indexed r.terms ∙ h

-- ---- all lines

module _ {A B : Type 0} (f : A → B) where
  all-mapped : (P : A → Type 0) (Q : B → Type 0) → ((a : A) → P a → Q (f a)) → (l : List A) → AllOf P l → AllOf Q (map f l)
  all-mapped P Q g [] h = tt
  all-mapped P Q g (a ∷ l) h = (g a h.0, all-mapped P Q g l h.1)

pub meanings-kept : (a : Assignment) (ls : List Line) → map (meaning_of a) (map normalised ls) ≡ map (meaning_of a) ls
meanings-kept a [] = refl
meanings-kept a (l ∷ ls) = ap₂ (λ (x : Meaning) (y : List Meaning). x ∷ y) (meaning-kept a l) (meanings-kept a ls)

all-weigh : (ls : List Line) → AllOf (λ (l : Line). weighs (terms_of l) ≡ true) (map normalised ls)
all-weigh [] = tt
all-weigh (l ∷ ls) = (line-weighs l, all-weigh ls)

terms-kept : (ls : List Line) → length (all_terms (map normalised ls)) ≡ length (all_terms ls)
unfolding joined
terms-kept [] = refl
terms-kept (l ∷ ls) =
    omega (
      arith,
      length-append (terms_of (normalised l)) (all_terms (map normalised ls)),
      length-append (terms_of l) (all_terms ls),
      line-terms l,
      terms-kept ls,
    )

-- ---- the table lent, the table left

pub record Meant (t o o' : Table) (n m : ℕ) : Type 0 where
  -- the rows of t are n lines with m terms
  pub lines : List Line
  pub read : row_by_row (line_in t) 0 (entries t) ≡ accepted lines
  pub rows : n ≡ length lines
  pub terms : m ≡ length (all_terms lines)
  -- they were filled, normal, into o, and the first rows of what is left are they
  pub left : o' ≡ filled (map normalised lines) o
  pub back : row_by_row (line_in o') 0 (take n (entries o')) ≡ accepted (map normalised lines)
  -- they mean what they meant
  pub means : (a : Assignment) → map (meaning_of a) (map normalised lines) ≡ map (meaning_of a) lines
  -- and are normal: no weight below 0, and nothing more to change
  pub weigh : AllOf (λ (l : Line). weighs (terms_of l) ≡ true) (map normalised lines)
  pub again : row_by_row (normal_in o') 0 (take n (entries o')) ≡ accepted (map normalised lines)

-- what normalising gives is its own normal line
given-twice : (t : Table) (e : Entry) (y : Line) → normal_in t e ≡ accept y → normal_line y ≡ accept y
unfolding normal_in
given-twice t e y q = by (line_in t e) q
  where
    by : (c : Checked Line) → and_then c normal_line ≡ accept y → normal_line y ≡ accept y
    by (refuse n) q = let z : ◌≡◌ {A = ℕ} 0 1 = cc in absurd (omega arith)
    by (accept l) q = normal-line-twice l y q

module _ (t o : Table) where
  lines-meant : (lines : List Line) → row_by_row (line_in t) 0 (entries t) ≡ accepted lines
      → Fits o (row_by_row (normal_in t) 0 (entries t)) (map normalised lines)
      → Meant t o (filled (map normalised lines) o) (length (map normalised lines)) (length (all_terms (map normalised lines)))
  lines-meant lines e f =
      let x = all-mapped normalised Indexed Indexed normalised-indexed lines
      (rows-accepted (line_in t) Indexed (line-indexed t) 0 (entries t) lines e) in
      let back = filled-back (map normalised lines) o f.terms x in
      let twice = rows-accepted (normal_in t) (λ (l : Line). normal_line l ≡ accept l) (given-twice t) 0 (entries t)
      (map normalised lines) f.accepts in
      record {
        lines = lines;
        read = e;
        rows = length-map lines normalised;
        terms = terms-kept lines;
        left = refl;
        back = back;
        means = λ a. meanings-kept a lines;
        weigh = all-weigh lines;
        again = once (take (length (map normalised lines)) (entries (filled (map normalised lines) o))) back twice;
      }
    where
      once : (es : List Entry) → row_by_row (line_in (filled (map normalised lines) o)) 0 es ≡ accepted (map normalised lines)
          → AllOf (λ (l : Line). normal_line l ≡ accept l) (map normalised lines)
          → row_by_row (normal_in (filled (map normalised lines) o)) 0 es ≡ accepted (map normalised lines)
      once es p q = unfold normal_in in rows-again (line_in (filled (map normalised lines) o)) normal_line 0 es (map normalised lines) p q

  accepted-meant : (ls : List Line) → normalising t o ≡ accepted ls → Meant t o (filled ls o) (length ls) (length (all_terms ls))
  unfolding normalising normal_in
  accepted-meant ls e =
      let f = fitted-accepted o (row_by_row (normal_in t) 0 (entries t)) ls e in
      let b = rows_both (line_in t) normal_line normalised line-normalised 0 (entries t) ls f.accepts in
      rw b.then (lines-meant b.first b.accepts (rw b.then at f))

  pub normalising-meant : (n m : ℕ) → counted (normalising t o) ≡ accepted (totals_of n m) → Meant t o (after (normalising t o) o) n m
  unfolding after
  normalising-meant n m e = by (normalising t o) refl e
    where
      by : (q : Outcome (List Line)) → normalising t o ≡ q → counted q ≡ accepted (totals_of n m) → Meant t o (after q o) n m
      by (refused r) p e = let z : ◌≡◌ {A = ℕ} 0 1 = cc in absurd (omega arith)
      by (accepted ls) p e =
          let q : totals_of (length ls) (length (all_terms ls)) ≡ totals_of n m = cc in
          let u : n ≡ length ls = sym (ap (λ (x : Totals). x.rows) q) in
          let v : m ≡ length (all_terms ls) = sym (ap (λ (x : Totals). x.terms) q) in
          rw (u, v) (accepted-meant ls p)

-- ---- the code: the columns as `normalise` was lent them, and as it leaves them

pub normalise-meant : (κs : _) (a : _) (n m : ℕ) (s : _) → normalise.Post κs a (Ok (totals_of n m)) s
    → Meant
    (table_of a.0)
    (table a.1.0.now a.1.1.0.now a.1.1.1.0.now a.1.1.1.1.0.now a.1.1.1.1.1.0.now a.1.1.1.1.1.1.0.now)
    (table s.1.0.now s.1.1.0.now s.1.1.1.0.now s.1.1.1.1.0.now s.1.1.1.1.1.0.now s.1.1.1.1.1.1.0.now)
    n m
normalise-meant κs a n m s p = rw p.after (normalising-meant _ _ n m (sym p.answer))
