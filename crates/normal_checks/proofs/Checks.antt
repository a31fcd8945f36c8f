-- The first walk: what is answered of a row's terms, and rows passed with the terms that they need.
use Rattle.std.specs.Prelude.{Some, Result, Ok, Err, MatchResult, slice_get}
use mathlib.Core.Path.{◌≡◌, refl, sym, ap, ◌∙◌}
use mathlib.Core.Bool.{Bool, true, false}
use mathlib.Core.List.{List, [], ◌∷◌, ◌++◌}
use Prim.Native.Nat.{ℕ, ◌+◌, ◌≤◌, ◌<◌}
use native.Mathlib.Omega.{arith}
use borrow.Author.Tests.{le-leb, lt-leb}
use lib.IntN.{ℤ, ◌+ℤ◌}
use lib.ListN.{length}
use Rattle.definitions.specs.Limits.{weight_limit, in_i64}
use Rattle.definitions.specs.Refusal.{refusal, needed, Checked, refuse, accept}
use Rattle.definitions.specs.Lists.{joined}
use Rattle.definitions.specs.Row.{Line, terms_of}
use Rattle.definitions.specs.Table.{Table, row_room, refused, accepted, totals_of, entries, all_terms, and_then}
use Rattle.definitions.specs.declared.Entry.{Entry}
use Rattle.definitions.specs.declared.Fault.{Fault}
use Rattle.definitions.specs.declared.Refusal.{Refusal}
use Rattle.definitions.specs.Normal.{normal_line, normal_in}
use Rattle.term_checks.specs.TermTests.{codes_indexed, weight_sizes}
use Rattle.columns.proofs.EntryLaws.{entry_at, entries_from, entries-end}
use Rattle.columns.specs.Kinds.{read_kind}
use Rattle.columns.proofs.KindNumbers.{line-by-terms}
use Rattle.shifts.specs.Shifts.{weight_rises, shift_by, shift_of}
use Rattle.shifts.proofs.Rises.{shift-whole}
use Rattle.definitions.specs.declared.Kind.{Kind}
use Rattle.normal_checks.specs.FirstWalk.{terms_checked, normal_of, term_count, normal_rows, totals_needed}
use Rattle.normal_checks.specs.Said.{said_row}
use Rattle.tables.proofs.Entries.{entry-taken}
use Rattle.definitions.proofs.Truths.{never}
use Rattle.definitions.proofs.Columns.{terms-snoc}
use Rattle.definitions.proofs.Columns.{Passed, passed_none, passed-all, passed-refused, passed-more}

-- ---- a row's terms

module _ (k : ℕ) (b : ℤ) (ws : List ℤ) (cs : List ℕ) where
  pub terms-unindexed : codes_indexed cs ≡ false → refuse 11 ≡ terms_checked k b ws cs
  unfolding terms_checked
  terms-unindexed i = rw i

  module _ (i : codes_indexed cs ≡ true) where
    pub terms-large : weight_limit < weight_sizes ws → refuse 8 ≡ terms_checked k b ws cs
    unfolding terms_checked
    terms-large h = rw (i, lt-leb (weight_sizes ws) weight_limit h)

    module _ (h : weight_sizes ws ≤ weight_limit) where
      pub terms-beyond : in_i64 (b +ℤ shift_by (read_kind k) (weight_rises ws)) ≡ false → refuse 8 ≡ terms_checked k b ws cs
      unfolding terms_checked
      terms-beyond f = rw (i, le-leb (weight_sizes ws) weight_limit h, f)

      pub terms-accepted : in_i64 (b +ℤ shift_by (read_kind k) (weight_rises ws)) ≡ true → accept (length ws) ≡ terms_checked k b ws cs
      unfolding terms_checked
      terms-accepted f = rw (i, le-leb (weight_sizes ws) weight_limit h, f)

-- the bound with what is added to it, as the code has them
pub bound-tested : (r : Bool) (k : ℕ) (κ : Kind) (b z : ℤ) (ws : List ℤ) → κ ≡ read_kind k → z ≡ shift_of κ ws
    → weight_sizes ws ≤ weight_limit → r ≡ in_i64 (b +ℤ z) → r ≡ in_i64 (b +ℤ shift_by (read_kind k) (weight_rises ws))
bound-tested r k κ b z ws e f h g =
    let q : z ≡ shift_by (read_kind k) (weight_rises ws) =
    f ∙ ap (λ (x : Kind). shift_of x ws) e ∙ shift-whole (read_kind k) ws h in
    g ∙ ap (λ (x : ℤ). in_i64 (b +ℤ x)) q

-- an entry's terms are in two of the columns
pub normal-of : (t : Table) (e : Entry) → normal_in t e ≡ normal_of e t.weights t.literals
unfolding normal_in
normal-of t e = ap (λ (c : Checked Line). and_then c normal_line) (line-by-terms t e)

-- so what is said of a row over those two is said of it in the table
pub checked-in : (t : Table) (e : Entry) (x : Checked ℕ) → x ≡ term_count (normal_of e t.weights t.literals)
    → x ≡ term_count (normal_in t e)
checked-in t e x p = p ∙ ap term_count (sym (normal-of t e))

-- ---- which case a count is of

pub refused-row : (x : Checked Line) (n : ℕ) → refuse n ≡ term_count x → x ≡ refuse n
refused-row (refuse m) n e = cc
refused-row (accept l) n e = let z : ◌≡◌ {A = ℕ} 0 1 = cc in absurd (omega arith)

pub record AcceptedRow (x : Checked Line) (n : ℕ) : Type 0 where
  pub line : Line
  pub accepts : x ≡ accept line
  pub count : n ≡ length (terms_of line)

pub accepted-row : (x : Checked Line) (n : ℕ) → accept n ≡ term_count x → AcceptedRow x n
accepted-row (refuse m) n e = let z : ◌≡◌ {A = ℕ} 0 1 = cc in absurd (omega arith)
accepted-row (accept l) n e = record { line = l; accepts = refl; count = cc }

-- ---- the walk

module _ (t : Table) where
  -- i rows passed, with the terms that they need
  pub record Counts (i terms : ℕ) : Type 0 where
    pub pre : List Line
    pub passed : Passed (normal_in t) (entries t) i pre
    pub terms-are : terms ≡ needed (length (all_terms pre))

  pub counts-none : Counts 0 0
  counts-none = record { pre = []; passed = passed_none (normal_in t) (entries t); terms-are = none }
    where
      none : 0 ≡ needed (length (all_terms []))
      none = unfold needed joined in omega arith

  module _ (i terms : ℕ) (w : Counts i terms) where
    pub counts_all : row_room t ≤ i → i ≤ row_room t → accepted (totals_of (row_room t) terms) ≡ totals_needed (normal_rows t)
    counts_all h g =
        rw (passed-all (normal_in t) (entries t) i w.pre w.passed (entries-end t i h))
        (same (row_room t) terms (length w.pre) (needed (length (all_terms w.pre))) (omega (arith, w.passed.count)) w.terms-are)
      where
        same : (n m n' m' : ℕ) → n ≡ n' → m ≡ m' → accepted (totals_of n m) ≡ accepted (totals_of n' m')
        same n m n' m' p q = λ x. accepted (totals_of (p x) (q x))

    module _ (h : i < row_room t) where
      pub counts-refused : (n : ℕ) → refuse n ≡ term_count (normal_in t (entry_at t i)) → refused (refusal n i) ≡ totals_needed (normal_rows t)
      counts-refused n e =
          sym (ap totals_needed
          (passed-refused (normal_in t) (entries t) i w.pre w.passed (entry_at t i) (entries_from t i h) n
          (refused-row (normal_in t (entry_at t i)) n e)))

      pub counts-more : (n : ℕ) → accept n ≡ term_count (normal_in t (entry_at t i)) → Counts (i + 1) (needed (terms + n))
      counts-more n e =
          let a = accepted-row (normal_in t (entry_at t i)) n e in
          record {
            pre = w.pre ++ (a.line ∷ []);
            passed = passed-more (normal_in t) (entries t) i w.pre w.passed (entry_at t i) (entries_from t i h) a.line a.accepts;
            terms-are =
                total (length (all_terms w.pre)) (length (terms_of a.line)) _ w.terms-are a.count (terms-snoc w.pre a.line);
          }
        where
          total : (x y z : ℕ) → terms ≡ needed x → n ≡ y → z ≡ x + y → needed (terms + n) ≡ needed z
          total x y z p q r = unfold needed in omega arith

    -- what the check says of the entry e at i, whose fault becomes a refusal with its row
    module _ (e : Entry) (g : slice_get (entries t) i ≡ Some e) (P : Fault → Type 0) where
      pub walk-refused : (r : Result ℕ Fault) → said_row r ≡ term_count (normal_of e t.weights t.literals) → (d : Refusal)
          → MatchResult r (λ n. ◌≡◌ {A = Result ℕ Refusal} (Err d) (Ok n)) P → ((f : Fault) → P f → d ≡ refusal f.number i)
          → refused d ≡ totals_needed (normal_rows t)
      walk-refused (Ok n) s d m h = never cc
      walk-refused (Err f) s d m h =
          let k = entry-taken t i e g in
          rw (h f m) (counts-refused k.0 f.number (checked-in t (entry_at t i) _ (rw k.1 at s)))

      pub walk-more : (r : Result ℕ Fault) → said_row r ≡ term_count (normal_of e t.weights t.literals) → (n : ℕ)
          → MatchResult r (λ m. ◌≡◌ {A = Result ℕ Refusal} (Ok n) (Ok m)) P → ((f : Fault) → P f → ⊥)
          → Counts (i + 1) (needed (terms + n))
      walk-more (Ok m) s n p h =
          let k = entry-taken t i e g in
          let q : n ≡ m = cc in
          rw q (counts-more k.0 m (checked-in t (entry_at t i) _ (rw k.1 at s)))
      walk-more (Err f) s n p h = absurd (h f p)
