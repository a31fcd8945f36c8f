-- The entry of a row: what the four columns of rows hold at its place.
use mathlib.Core.Path.{◌≡◌, refl, sym, ◌∙◌}
use mathlib.Core.List.{List, [], ◌∷◌}
use mathlib.Core.Bool.{Bool, true, false}
use Prim.Native.Nat.{ℕ, zero, suc, ◌+◌, ◌≤◌, ◌<◌}
use native.Mathlib.Omega.{arith}
use borrow.Author.Tests.{leb-true, leb-false}
use lib.Dec.{leb}
use lib.ListN.{drop}
use Rattle.std.specs.Prelude.{Some, None, slice_get}
use Rattle.std.proofs.lemmas.Option.{slice_get_past}
use Rattle.definitions.specs.Table.{Table, row_room, entries}
use Rattle.definitions.specs.declared.Entry.{Entry}
use Rattle.definitions.proofs.Truths.{never}
use Rattle.columns.proofs.EntryLaws.{entry_at, entries-count, entries_from}

-- what stands at the front behind i items is item i
front-got : {A : Type 0} (xs : List A) (i : ℕ) (x : A) (ys : List A) → drop i xs ≡ x ∷ ys → slice_get xs i ≡ Some x
front-got [] zero x ys e = cc
front-got [] (suc i) x ys e = cc
front-got (z ∷ zs) zero x ys e = cc
front-got (z ∷ zs) (suc i) x ys e = front-got zs i x ys e

pub entry-found : (t : Table) (i : ℕ) → i < row_room t → slice_get (entries t) i ≡ Some (entry_at t i)
entry-found t i h = front-got (entries t) i (entry_at t i) _ (entries_from t i h)

pub entry-none : (t : Table) (i : ℕ) → row_room t ≤ i → slice_get (entries t) i ≡ None
entry-none t i h = slice_get_past (entries t) i (omega (arith, entries-count t))

-- ---- for a walk over the rows that asks for the entry of each

pub entry-taken : (t : Table) (i : ℕ) (e : Entry) → slice_get (entries t) i ≡ Some e → (i < row_room t) × (e ≡ entry_at t i)
entry-taken t i e p = by (leb (i + 1) (row_room t)) refl
  where
    by : (b : Bool) → leb (i + 1) (row_room t) ≡ b → (i < row_room t) × (e ≡ entry_at t i)
    by true q =
        let h : i + 1 ≤ row_room t = leb-true _ _ q in
        let f = sym p ∙ entry-found t i (omega arith) in
        (omega arith, cc)
    by false q =
        let h : row_room t < i + 1 = leb-false _ _ q in
        let f = sym p ∙ entry-none t i (omega arith) in
        never (cc)

pub entry-ended : (t : Table) (i : ℕ) → slice_get (entries t) i ≡ None → row_room t ≤ i
entry-ended t i p = by (leb (i + 1) (row_room t)) refl
  where
    by : (b : Bool) → leb (i + 1) (row_room t) ≡ b → row_room t ≤ i
    by true q =
        let h : i + 1 ≤ row_room t = leb-true _ _ q in
        let f = sym p ∙ entry-found t i (omega arith) in
        never (cc)
    by false q = let h : row_room t < i + 1 = leb-false _ _ q in omega arith
