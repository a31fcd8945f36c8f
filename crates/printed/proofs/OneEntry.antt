-- One row of the table: what its kind and its terms say to the code is what the definitions say.
use mathlib.Core.Path.{◌≡◌, refl, ap}
use mathlib.Core.Bool.{Bool, true, cond, ◌&&◌, and-true, and-false}
use mathlib.Core.List.{List, [], ◌∷◌, map, map-id}
use Prim.Native.Nat.{ℕ, ◌+◌, ◌-◌}
use native.Mathlib.Omega.{arith}
use lib.IntN.{ℤ, pos, negsuc}
use lib.Signed.{non_neg}
use lib.ListN.{take, drop}
use Rattle.definitions.specs.Refusal.{Checked, refuse, accept}
use Rattle.definitions.specs.Row.{Term, row_of}
use Rattle.definitions.specs.Table.{Table, terms_at, in_column, indexed, Sort, remark, clause, unknown, weighted, cardinality, sort_of}
use Rattle.definitions.specs.Table.{and_then}
use Rattle.definitions.specs.declared.Entry.{Entry}
use Rattle.definitions.specs.Write.{unit_term, weighs, Item, line, item_by, item_in, allowed, written_in}
use Rattle.definitions.specs.declared.Mode.{Mode}
use Rattle.definitions.specs.declared.Kind.{Kind}
use Rattle.definitions.specs.declared.Kind.TheVariants.{AtLeast as at_least}
use Rattle.definitions.proofs.Accepted.{indexed-units}
use Rattle.term_checks.proofs.Terms.{terms-at}
use Rattle.std.specs.Prelude.{Option, Some, None, Result, Ok, Err}
use Rattle.definitions.specs.declared.Fault.{Fault}
use Rattle.printed.specs.declared.kinds.Shape.{Shape}
use Rattle.printed.specs.Kinds.{weighted_sort, cardinality_sort, sort_said}
use Rattle.shown.specs.Terms.{own_term, own_terms}

-- ---- where the row stands

pub part-is : {A : Type 0} (f n : ℕ) (l : List A) → take (f + n - f) (drop f l) ≡ take n (drop f l)
part-is f n l = let e : f + n - f ≡ n = omega arith in rw e

pub own_is : (t : Table) (e : Entry) (unit : Bool)
    → map (own_term unit) (terms_at t e)
    ≡ own_terms unit (take e.count (drop e.first t.weights)) (take e.count (drop e.first t.literals))
own_is t e unit = ap (map (own_term unit)) (terms-at t e)

-- ---- what an entry asks to be written, by the code's sort

abbrev pub item_for : Result (Option Shape) Fault → Table → List ℕ → Entry → Checked Item
item_for (Ok None) t text e = item_by remark t text e
item_for (Ok (Some s)) t text e =
    cond (in_column t e && (indexed (map (own_term s.unit) (terms_at t e)) && weighs (map (own_term s.unit) (terms_at t e))))
    (accept (line (row_of s.kind s.bound (map (own_term s.unit) (terms_at t e))))) (refuse 11)
item_for (Err f) t text e = refuse f.number

unit-weighs : (ts : List Term) → weighs (map unit_term ts) ≡ true
unfolding weighs unit_term
unit-weighs [] = refl
unit-weighs (t ∷ ts) = unit-weighs ts

module _ (t : Table) (text : List ℕ) (e : Entry) where
  abbrev terms : List Term
  terms = terms_at t e

  unit-item : (k : Kind) (b : ℤ) → cond (in_column t e && indexed terms) (accept (line (row_of k b (map unit_term terms)))) (refuse 11)
      ≡ item_for (Ok (Some (record { kind = k; unit = true; bound = b }))) t text e
  unit-item k b = rw (indexed-units terms, unit-weighs terms, and-true (indexed terms))

  cardinality-item : (k : Kind) (b : ℤ)
      → cond (in_column t e && (indexed terms && non_neg b)) (accept (line (row_of k b (map unit_term terms)))) (refuse 11)
      ≡ item_for (cardinality_sort k b) t text e
  cardinality-item k (pos n) = rw (and-true (indexed terms)) (unit-item k (pos n))
  cardinality-item k (negsuc n) = rw (and-false (indexed terms), and-false (in_column t e))

  weighted-item : (k : Kind) (b : ℤ)
      → cond (in_column t e && (indexed terms && weighs terms)) (accept (line (row_of k b terms))) (refuse 11)
      ≡ item_for (weighted_sort k b) t text e
  weighted-item k b = rw (map-id terms)

  item-is : (s : Sort) → item_by s t text e ≡ item_for (sort_said s e.bound) t text e
  item-is remark = refl
  item-is clause = unit-item at_least (pos 1)
  item-is unknown = refl
  item-is (weighted k) = weighted-item k e.bound
  item-is (cardinality k) = cardinality-item k e.bound

  -- s is what the number in the column of kinds says
  pub written-by : (m : Mode) (s : Result (Option Shape) Fault) → s ≡ sort_said (sort_of e.kind) e.bound
      → written_in m t text e ≡ and_then (item_for s t text e) (allowed m)
  unfolding written_in item_in
  written-by m s p = rw p (ap (λ (i : Checked Item). and_then i (allowed m)) (item-is (sort_of e.kind)))
