-- What has a normal row? No weight below 0, the variables and the sizes of the weights as they were, and nothing left
-- for normalising to change.
use Prim.Native.Nat.{ℕ, ◌+◌}
use mathlib.Core.Path.{◌≡◌, refl, ap, ap₂, ◌∙◌}
use mathlib.Core.Bool.{Bool, true, false, cond, ◌&&◌}
use mathlib.Core.List.{List, [], ◌∷◌, map}
use lib.Dec.{leb}
use lib.IntN.{ℤ, pos, negsuc, nat_abs, ◌+ℤ◌, +ℤ_idr}
use lib.Signed.{non_neg}
use Rattle.definitions.specs.Limits.{weight_limit, in_i64}
use Rattle.definitions.specs.Refusal.{refuse, accept}
use Rattle.definitions.specs.Literal.{index_of, is_index}
use Rattle.definitions.specs.Row.{Term, Kind, at_least, at_most, equal, objective, Row, row_of, Line, comment, row, sizes}
use Rattle.definitions.specs.Table.{indexed}
use Rattle.definitions.specs.Normal.{moved, total_by, normal_by, normal_term, rise, normal, normal_line}
use Rattle.definitions.specs.Write.{weighs}
use Rattle.definitions.proofs.Truths.{never}
use Rattle.definitions.proofs.Meanings.{opposite-half}

-- ---- terms

module _ where
  weight-from-zero : (w : ℤ) (c : ℕ) → non_neg (normal_by w c).weight ≡ true
  weight-from-zero (pos n) c = refl
  weight-from-zero (negsuc n) c = refl

  weight-size : (w : ℤ) (c : ℕ) → nat_abs (normal_by w c).weight ≡ nat_abs w
  weight-size (pos n) c = refl
  weight-size (negsuc n) c = refl

  index_kept : (w : ℤ) (c : ℕ) → index_of (normal_by w c).code ≡ index_of c
  index_kept (pos n) c = refl
  index_kept (negsuc n) c = opposite-half c

  by-twice : (w : ℤ) (c : ℕ) → normal_term (normal_by w c) ≡ normal_by w c
  unfolding normal_term
  by-twice (pos n) c = refl
  by-twice (negsuc n) c = refl

  by-rise : (w : ℤ) (c : ℕ) → rise (normal_by w c) ≡ pos 0
  unfolding rise
  by-rise (pos n) c = refl
  by-rise (negsuc n) c = refl

pub terms-weigh : (ts : List Term) → weighs (map normal_term ts) ≡ true
unfolding weighs normal_term
terms-weigh [] = refl
terms-weigh (t ∷ ts) = rw (weight-from-zero t.weight t.code) (terms-weigh ts)

pub terms-sizes : (ts : List Term) → sizes (map normal_term ts) ≡ sizes ts
unfolding sizes normal_term
terms-sizes [] = refl
terms-sizes (t ∷ ts) = ap₂ (λ (x y : ℕ). x + y) (weight-size t.weight t.code) (terms-sizes ts)

pub terms-indexed : (ts : List Term) → indexed (map normal_term ts) ≡ indexed ts
unfolding indexed normal_term
terms-indexed [] = refl
terms-indexed (t ∷ ts) = ap₂ (λ (x : ℕ) (y : Bool). is_index x && y) (index_kept t.weight t.code) (terms-indexed ts)

terms-twice : (ts : List Term) → map normal_term (map normal_term ts) ≡ map normal_term ts
terms-twice [] = refl
terms-twice (t ∷ ts) = ap₂ (λ (x : Term) (y : List Term). x ∷ y) (once t) (terms-twice ts)
  where
    once : (t : Term) → normal_term (normal_term t) ≡ normal_term t
    once t = unfold normal_term in by-twice t.weight t.code

no-rise : (ts : List Term) → total_by rise (map normal_term ts) ≡ pos 0
unfolding total_by normal_term
no-rise [] = refl
no-rise (t ∷ ts) = ap₂ (λ (x y : ℤ). x +ℤ y) (by-rise t.weight t.code) (no-rise ts)

-- ---- rows

pub normal-weighs : (r : Row) → weighs (normal r).terms ≡ true
unfolding normal
normal-weighs r = terms-weigh r.terms

moved_none : (k : Kind) (b : ℤ) → moved k b (pos 0) ≡ b
moved_none at_least b = +ℤ_idr b
moved_none at_most b = +ℤ_idr b
moved_none equal b = +ℤ_idr b
moved_none objective b = +ℤ_idr b

pub normal-twice : (r : Row) → normal (normal r) ≡ normal r
unfolding normal
normal-twice r =
    let b = moved r.kind r.bound (total_by rise r.terms) in
    let p : moved r.kind b (total_by rise (map normal_term r.terms)) ≡ b =
    ap (moved r.kind b) (no-rise r.terms) ∙ moved_none r.kind b in
    let q = terms-twice r.terms in
    λ x. row_of r.kind (p x) (q x)

-- a line that came of normalising is its own normal line
pub normal-line-twice : (l y : Line) → normal_line l ≡ accept y → normal_line y ≡ accept y
normal-line-twice (comment f n b) y e = let z : y ≡ comment f n b = cc in rw z
normal-line-twice (row r) y e = by (leb (sizes r.terms) weight_limit && in_i64 (normal r).bound) refl e
  where
    sizes-kept : sizes (normal r).terms ≡ sizes r.terms
    sizes-kept = unfold normal in terms-sizes r.terms

    by : (b : Bool) → leb (sizes r.terms) weight_limit && in_i64 (normal r).bound ≡ b
        → cond b (accept (row (normal r))) (refuse 8) ≡ accept y → normal_line y ≡ accept y
    by true p e = let z : y ≡ row (normal r) = cc in rw (z, normal-twice r, sizes-kept, p)
    by false p e = never cc
