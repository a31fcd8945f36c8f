-- The numbers in the column of kinds: which kind each is, that `read_kind` is the definition's `sort_of` where a row is a
-- read row's, and that any other row is 11.
use Prim.Native.Nat.{ℕ, zero, suc, ◌≤◌, ◌<◌}
use mathlib.Core.Path.{◌≡◌, refl, ap}
use mathlib.Core.Bool.{Bool, true, false, cond}
use mathlib.Core.List.{[]}
use native.Mathlib.Omega.{arith}
use borrow.Author.Tests.{ne_eqb}
use lib.Dec.{eqb}
use Rattle.definitions.specs.Refusal.{refuse}
use Rattle.definitions.specs.declared.Kind.TheVariants.{AtLeast as at_least, AtMost as at_most, Equal as equal, Objective as objective}
use Rattle.definitions.specs.Table.{Table, table, kind_number, Sort, remark, clause, unknown, weighted, cardinality, sort_of, line_by, line_in}
use Rattle.definitions.specs.declared.Entry.{Entry}
use Rattle.columns.specs.Kinds.{read_kind}

-- ---- the kind of a number

module _ (n : ℕ) where
  pub kind-at-least : n ≡ 1 → read_kind n ≡ at_least
  unfolding read_kind
  kind-at-least e = ap read_kind e

  pub kind-at-most : n ≡ 2 → read_kind n ≡ at_most
  unfolding read_kind
  kind-at-most e = ap read_kind e

  pub kind-equal : n ≡ 3 → read_kind n ≡ equal
  unfolding read_kind
  kind-equal e = ap read_kind e

  pub kind-objective : (n ≡ 1 → ⊥) → (n ≡ 2 → ⊥) → (n ≡ 3 → ⊥) → read_kind n ≡ objective
  unfolding read_kind
  kind-objective a b c = rw (ne_eqb n 1 a, ne_eqb n 2 b, ne_eqb n 3 c)

-- ---- read rows

pub record ReadKind (n : ℕ) : Type 0 where
  pub sort : sort_of n ≡ weighted (read_kind n)
  pub number : kind_number (read_kind n) ≡ n

pub read-kind : (n : ℕ) → (n ≡ 0 → ⊥) → n ≤ 4 → ReadKind n
unfolding sort_of read_kind
read-kind zero h g = absurd (h refl)
read-kind (suc zero) h g = record { sort = refl; number = refl }
read-kind (suc (suc zero)) h g = record { sort = refl; number = refl }
read-kind (suc (suc (suc zero))) h g = record { sort = refl; number = refl }
read-kind (suc (suc (suc (suc zero)))) h g = record { sort = refl; number = refl }
read-kind (suc (suc (suc (suc (suc n))))) h g = absurd (omega arith)

-- ---- rows that are none

pub unread-kind : (n : ℕ) (t : Table) (e : Entry) → 4 < n → line_by (sort_of n) t e ≡ refuse 11
unfolding sort_of
unread-kind n t e h =
    rw (
      ne_eqb n 0 (λ q. omega arith),
      ne_eqb n 1 (λ q. omega arith),
      ne_eqb n 2 (λ q. omega arith),
      ne_eqb n 3 (λ q. omega arith),
      ne_eqb n 4 (λ q. omega arith),
    )
    (by (eqb n 5) (eqb n 6) (eqb n 7) (eqb n 8))
  where
    by : (p q r s : Bool)
        → line_by (cond p clause (cond q (cardinality at_least) (cond r (cardinality at_most) (cond s (cardinality equal) unknown)))) t e
        ≡ refuse 11
    by true q r s = refl
    by false true r s = refl
    by false false true s = refl
    by false false false true = refl
    by false false false false = refl

-- ---- of an entry only the columns of terms matter

pub line-by-terms : (t : Table) (e : Entry) → line_in t e ≡ line_in (table [] [] [] [] t.weights t.literals) e
unfolding line_in
line-by-terms t e = by (sort_of e.kind)
  where
    by : (s : Sort) → line_by s t e ≡ line_by s (table [] [] [] [] t.weights t.literals) e
    by remark = refl
    by clause = refl
    by unknown = refl
    by (weighted k) = refl
    by (cardinality k) = refl
