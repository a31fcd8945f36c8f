-- What each step of the evaluator answers is what the definition says: an entry of the table, by the sum of its terms
-- and the verdict on it; a row of the table.
use mathlib.Core.Path.{◌≡◌, refl, sym, ap, ◌∙◌}
use mathlib.Core.Bool.{Bool, true, false, cond, ◌&&◌}
use mathlib.Core.Logic.{◌⊎◌, inl, inr}
use mathlib.Core.List.{List, [], ◌∷◌}
use Prim.Native.Nat.{ℕ, zero, suc, ◌≤◌, ◌<◌}
use native.Mathlib.Omega.{arith}
use lib.Dec.{leb}
use lib.IntN.{ℤ}
use lib.ListN.{drop}
use Rattle.std.specs.Prelude.{Option, Some, None, slice_get}
use Rattle.definitions.specs.Limits.{weight_limit}
use Rattle.definitions.specs.Refusal.{refusal, Checked, refuse, accept}
use Rattle.definitions.specs.Row.{Row, row_of, Line, row, sizes}
use Rattle.definitions.specs.Table.{Table, Outcome, row_room, refused, indexed, terms_at, in_column, remark, sort_of, line_in, and_then, table, entries}
use Rattle.definitions.specs.declared.Kind.{Kind}
use Rattle.definitions.specs.declared.Entry.{Entry}
use Rattle.definitions.specs.Meaning.{Assignment, sum_of, assigned}
use Rattle.definitions.specs.Evaluate.{Evaluated as Found, covered, found, found_in, front_by, on_place, evaluating_by}
use Rattle.columns.specs.Kinds.{read_kind}
use Rattle.columns.proofs.KindNumbers.{read-kind, unread-kind, line-by-terms}
use Rattle.tables.proofs.Entries.{entry-none}
use Rattle.assigned.specs.WordsSay.{has_by}
use Rattle.summed.specs.Sums.{summed_at}
use Rattle.verdicts.specs.Verdicts.{verdict_of}
use Rattle.verdicts.proofs.VerdictLaws.{found-by-verdict}
use Rattle.rows.specs.FoundRow.{found_at, evaluating_of}

-- ---- an entry of a table with these two columns of terms

-- what the number of a kind says, if it is no read row's
sort-low : (n : ℕ) → n < 1 → sort_of n ≡ remark
unfolding sort_of
sort-low n h = let e : n ≡ 0 = omega arith in ap sort_of e

-- a row is found by its sum and the verdict on it
module _ (has : ℕ → Bool) (a : Assignment) (ones : ℕ) (r : Row) where
  abbrev verdict_on : ℤ → Checked Found
  verdict_on sum = verdict_of r.kind sum r.bound ones

  row-verdict : (inside indexes small covers : Bool)
      → cond inside
      (cond indexes (cond small (cond covers (verdict_on (sum_of a r.terms)) (refuse 12)) (refuse 8)) (refuse 11)) (refuse 11)
      ≡ and_then
      (cond inside (cond indexes (cond small (cond covers (accept (sum_of a r.terms)) (refuse 12)) (refuse 8)) (refuse 11)) (refuse 11))
      verdict_on
  row-verdict false indexes small covers = refl
  row-verdict true false small covers = refl
  row-verdict true true false covers = refl
  row-verdict true true true false = refl
  row-verdict true true true true = refl

  row-found : (inside indexes : Bool)
      → and_then (cond (inside && indexes) (accept (row r)) (refuse 11)) (found_in has a ones)
      ≡ cond inside
      (cond indexes
      (cond (leb (sizes r.terms) weight_limit) (cond (covered has r.terms) (verdict_on (sum_of a r.terms)) (refuse 12)) (refuse 8))
      (refuse 11)) (refuse 11)
  unfolding found
  row-found false indexes = refl
  row-found true false = refl
  row-found true true = rw (found-by-verdict a ones r)

module _ (e : Entry) (ws : List ℤ) (cs : List ℕ) (known : Option (List ℕ)) (words : List ℕ) (ones : ℕ) where
  abbrev columns : Table
  columns = table [] [] [] [] ws cs

  -- a kind that is no read row's
  pub entry-unread : (e.kind < 1) ⊎ (4 < e.kind) → found_at e ws cs known words ones ≡ refuse 11
  unfolding line_in
  entry-unread (inl h) = rw (sort-low e.kind h)
  entry-unread (inr h) = rw (unread-kind e.kind columns e h)

  module _ (h : 1 ≤ e.kind) (g : e.kind ≤ 4) where
    by-sum : found_at e ws cs known words ones
        ≡ and_then (summed_at e.first e.count ws cs known words)
        (λ (sum : ℤ). verdict_of (read_kind e.kind) sum e.bound ones)
    unfolding line_in
    by-sum =
        let ts = terms_at columns e in
        let r = row_of (read_kind e.kind) e.bound ts in
        let has = has_by known words in
        rw (read-kind e.kind (λ q. omega arith) g).sort
        (row-found has (assigned words) ones r (in_column columns e) (indexed ts)
        ∙ row-verdict has (assigned words) ones r (in_column columns e) (indexed ts) (leb (sizes ts) weight_limit) (covered has ts))

    -- terms with no sum, and with one
    pub entry-refused : (number : ℕ) → refuse number ≡ summed_at e.first e.count ws cs known words
        → found_at e ws cs known words ones ≡ refuse number
    entry-refused number q = rw (by-sum, ← q)

    pub entry-verdict : (sum : ℤ) (place : ℕ) (k : Kind) (o : Outcome Found)
        → accept sum ≡ summed_at e.first e.count ws cs known words
        → k ≡ read_kind e.kind
        → o ≡ on_place place (verdict_of k sum e.bound ones)
        → o ≡ on_place place (found_at e ws cs known words ones)
    entry-verdict sum place k o q t p = p ∙ rw (t, by-sum, ← q)

-- ---- a row of the table

module _ (t : Table) (f : Line → Checked Found) where
  front-got : (es : List Entry) (i : ℕ) (e : Entry) → slice_get es i ≡ Some e → front_by (drop i es) t f ≡ and_then (line_in t e) f
  front-got [] zero e q = cc
  front-got [] (suc i) e q = cc
  front-got (d ∷ es) zero e q = cc
  front-got (d ∷ es) (suc i) e q = front-got es i e q

  front-none : (es : List Entry) (i : ℕ) → slice_get es i ≡ None → front_by (drop i es) t f ≡ refuse 11
  front-none [] zero q = refl
  front-none [] (suc i) q = refl
  front-none (d ∷ es) zero q = cc
  front-none (d ∷ es) (suc i) q = front-none es i q

module _ (t : Table) (i : ℕ) where
  pub row-none : (has : ℕ → Bool) (a : Assignment) (ones : ℕ) → slice_get (entries t) i ≡ None
      → evaluating_by has a ones t i ≡ refused (refusal 11 i)
  unfolding evaluating_by
  row-none has a ones q = ap (on_place i) (front-none t (found_in has a ones) (entries t) i q)

  pub row-missing : (has : ℕ → Bool) (a : Assignment) (ones : ℕ) → row_room t ≤ i → evaluating_by has a ones t i ≡ refused (refusal 11 i)
  row-missing has a ones h = row-none has a ones (entry-none t i h)

  pub row-there : (known : Option (List ℕ)) (words : List ℕ) (ones : ℕ) (e : Entry) → slice_get (entries t) i ≡ Some e
      → on_place i (found_at e t.weights t.literals known words ones) ≡ evaluating_of t i known words ones
  unfolding evaluating_by
  row-there known words ones e q =
      let f = found_in (has_by known words) (assigned words) ones in
      ap (λ (l : Checked Line). on_place i (and_then l f)) (sym (line-by-terms t e))
      ∙ sym (ap (on_place i) (front-got t f (entries t) i e q))
