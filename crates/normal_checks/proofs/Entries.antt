-- What is said of one entry of a table: which numbers in the column of kinds are read, what is checked of its terms,
-- and what its normal row holds.
use mathlib.Core.Path.{◌≡◌, refl, sym, ap, ◌∙◌}
use mathlib.Core.Bool.{Bool, true, false, cond, ◌&&◌}
use mathlib.Core.List.{List, [], map}
use Prim.Native.Nat.{ℕ, ◌≤◌, ◌<◌}
use native.Mathlib.Omega.{arith}
use native.Mathlib.Decide.{dec_le}
use borrow.Author.Tests.{leb-true}
use lib.Dec.{leb}
use lib.IntN.{ℤ, pos, ◌+ℤ◌}
use lib.ListN.{length, length-map}
use Rattle.definitions.specs.Limits.{weight_limit, in_i64}
use Rattle.definitions.specs.Refusal.{Checked, refuse, accept}
use Rattle.definitions.specs.Row.{Row, row_of, Line, comment, row}
use Rattle.definitions.specs.Table.{Table, table, terms_at, in_column, sort_of, kind_in, count_in, and_then, row_in, line_in}
use Rattle.definitions.specs.declared.Entry.{Entry}
use Rattle.definitions.specs.Normal.{moved, total_by, normal_term, rise, normal, normal_line, normal_in}
use Rattle.definitions.proofs.Accepted.{passed}
use Rattle.definitions.proofs.Truths.{both}
use Rattle.term_checks.specs.TermTests.{codes_indexed, weight_sizes}
use Rattle.term_checks.proofs.Terms.{weights_at, literals_at, terms-at, weights-at-count, literals-at-count, terms-at-count}
use Rattle.term_checks.proofs.Terms.{indexed-at, sizes-at}
use Rattle.columns.specs.Kinds.{read_kind}
use Rattle.columns.proofs.KindNumbers.{read-kind, unread-kind}
use Rattle.shifts.specs.Shifts.{weight_rises, shift_by}
use Rattle.shifts.proofs.Rises.{rises-on, moved-is}
use Rattle.normal_checks.specs.FirstWalk.{terms_checked, normal_of, term_count}

-- ---- an entry by its kind

module _ (ws : List ℤ) (cs : List ℕ) (e : Entry) where
  abbrev pub on : Table
  on = table [] [] [] [] ws cs

  pub of-comment : e.kind ≡ 0 → normal_of e ws cs ≡ accept (comment e.first e.count e.bound)
  unfolding normal_in line_in sort_of
  of-comment k = rw k

  pub of-unread : 4 < e.kind → normal_of e ws cs ≡ refuse 11
  unfolding normal_in line_in
  of-unread h = rw (unread-kind e.kind on e h)

  -- a row of a read kind
  module _ (h : e.kind ≡ 0 → ⊥) (g : e.kind ≤ 4) where
    abbrev raw : Row
    raw = row_of (read_kind e.kind) e.bound (terms_at on e)

    of-read : normal_of e ws cs ≡ and_then (row_in (read_kind e.kind) on e) normal_line
    unfolding normal_in line_in
    of-read = rw (read-kind e.kind h g).sort

    pub of-outside : in_column on e ≡ false → normal_of e ws cs ≡ refuse 11
    of-outside f = of-read ∙ rw f

    module _ (i : in_column on e ≡ true) where
      lengths : length (weights_at on e) ≡ length (literals_at on e)
      lengths = weights-at-count on e i ∙ sym (literals-at-count on e i)

      rises : total_by rise (terms_at on e) ≡ pos (weight_rises (weights_at on e))
      rises = ap (total_by rise) (terms-at on e) ∙ rises-on (weights_at on e) (literals_at on e) lengths

      -- the bound of the normal row
      pub normal-bound : (normal raw).bound ≡ e.bound +ℤ shift_by (read_kind e.kind) (weight_rises (weights_at on e))
      unfolding normal
      normal-bound =
          ap (moved (read_kind e.kind) e.bound) rises ∙ moved-is (read_kind e.kind) e.bound (weight_rises (weights_at on e))

      of-inside : normal_of e ws cs
          ≡ cond (codes_indexed (literals_at on e))
          (cond (leb (weight_sizes (weights_at on e)) weight_limit
          && in_i64 (e.bound +ℤ shift_by (read_kind e.kind) (weight_rises (weights_at on e)))) (accept (row (normal raw))) (refuse 8))
          (refuse 11)
      of-inside = of-read ∙ rw (i, indexed-at on e i) (by (codes_indexed (literals_at on e)))
        where
          by : (b : Bool)
              → and_then (cond b (accept (row raw)) (refuse 11)) normal_line
              ≡ cond b (cond (leb (weight_sizes (weights_at on e)) weight_limit
              && in_i64 (e.bound +ℤ shift_by (read_kind e.kind) (weight_rises (weights_at on e)))) (accept (row (normal raw)))
              (refuse 8)) (refuse 11)
          by true = rw (sizes-at on e i, normal-bound)
          by false = refl

      -- what the code counts
      pub check-inside : term_count (normal_of e ws cs) ≡ terms_checked e.kind e.bound (weights_at on e) (literals_at on e)
      unfolding terms_checked normal
      check-inside =
          ap term_count of-inside
          ∙ by (codes_indexed (literals_at on e))
          (leb (weight_sizes (weights_at on e)) weight_limit
          && in_i64 (e.bound +ℤ shift_by (read_kind e.kind) (weight_rises (weights_at on e))))
        where
          count : length (map normal_term (terms_at on e)) ≡ length (weights_at on e)
          count = length-map (terms_at on e) normal_term ∙ terms-at-count on e i ∙ sym (weights-at-count on e i)

          by : (b d : Bool)
              → term_count (cond b (cond d (accept (row (normal raw))) (refuse 8)) (refuse 11))
              ≡ cond b (cond d (accept (length (weights_at on e))) (refuse 8)) (refuse 11)
          by true true = ap accept count
          by true false = refl
          by false d = refl

-- ---- what an accepted entry has

not-refused : {A : Type 0} {x : Checked A} {n : ℕ} {y : A} → x ≡ refuse n → x ≡ accept y → ⊥
not-refused p q = let z : ◌≡◌ {A = ℕ} 0 1 = cc in omega arith

same-accepted : {A : Type 0} {x : Checked A} {y z : A} → x ≡ accept y → x ≡ accept z → y ≡ z
same-accepted p q = cc

module _ (ws : List ℤ) (cs : List ℕ) (e : Entry) (y : Line) (a : normal_of e ws cs ≡ accept y) where
  pub accepted-comment : e.kind ≡ 0 → y ≡ comment e.first e.count e.bound
  accepted-comment k = same-accepted a (of-comment ws cs e k)

  -- a row of a read kind
  pub record ReadRow : Type 0 where
    pub known : e.kind ≤ 4
    pub inside : in_column (on ws cs e) e ≡ true
    pub small : weight_sizes (weights_at (on ws cs e) e) ≤ weight_limit
    pub bounded : in_i64 (e.bound +ℤ shift_by (read_kind e.kind) (weight_rises (weights_at (on ws cs e) e))) ≡ true
    pub is : y ≡ row (normal (row_of (read_kind e.kind) e.bound (terms_at (on ws cs e) e)))

  pub accepted-row : (e.kind ≡ 0 → ⊥) → ReadRow
  accepted-row h = known (dec_le e.kind 4)
    where
      inside : (g : e.kind ≤ 4) (b : Bool) → in_column (on ws cs e) e ≡ b → ReadRow
      inside g false f = absurd (not-refused (of-outside ws cs e h g f) a)
      inside g true i =
          let p = passed (codes_indexed (literals_at (on ws cs e) e)) _ 11 y (sym (of-inside ws cs e h g i) ∙ a) in
          let q = passed (leb (weight_sizes (weights_at (on ws cs e) e)) weight_limit
          && in_i64 (e.bound +ℤ shift_by (read_kind e.kind) (weight_rises (weights_at (on ws cs e) e)))) _ 8 y p.1 in
          let t = both (leb (weight_sizes (weights_at (on ws cs e) e)) weight_limit) _ q.0 in
          record {
            known = g;
            inside = i;
            small = leb-true (weight_sizes (weights_at (on ws cs e) e)) weight_limit t.0;
            bounded = t.1;
            is = same-accepted refl (sym q.1);
          }

      known : Dec (e.kind ≤ 4) → ReadRow
      known (yes g) = inside g (in_column (on ws cs e) e) refl
      known (no g) = absurd (not-refused (of-unread ws cs e (omega arith)) a)

  -- "comment rows are copied as they are"; of any other "order and count of terms stay"
  pub kind-kept : kind_in y ≡ e.kind
  unfolding normal
  kind-kept = cases (dec_le e.kind 0)
    where
      cases : Dec (e.kind ≤ 0) → kind_in y ≡ e.kind
      cases (yes g) = let k : e.kind ≡ 0 = omega arith in ap kind_in (accepted-comment k) ∙ sym k
      cases (no g) =
          let h : e.kind ≡ 0 → ⊥ = λ z. omega arith in
          let r = accepted-row h in ap kind_in r.is ∙ (read-kind e.kind h r.known).number

  pub count_kept : count_in y ≡ e.count
  unfolding normal
  count_kept = cases (dec_le e.kind 0)
    where
      cases : Dec (e.kind ≤ 0) → count_in y ≡ e.count
      cases (yes g) = ap count_in (accepted-comment (omega arith))
      cases (no g) =
          let r = accepted-row (λ z. omega arith) in
          ap count_in r.is ∙ length-map (terms_at (on ws cs e) e) normal_term ∙ terms-at-count (on ws cs e) e r.inside
