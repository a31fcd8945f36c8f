-- What follows from the writer's acceptance? Of each item that is written, and so of each row as it is printed.
use Prim.Native.Nat.{ℕ, ◌+◌, ◌≤◌}
use mathlib.Core.Path.{◌≡◌, refl, ap, ap₂, ◌∙◌}
use mathlib.Core.Bool.{Bool, true, false, cond, ◌&&◌}
use mathlib.Core.List.{List, [], ◌∷◌, map}
use native.Mathlib.Omega.{arith}
use borrow.Author.Tests.{leb-true}
use lib.Dec.{leb}
use lib.ListN.{length, take, drop, length-map}
use lib.IntN.{ℤ, pos, neg_ℤ, nat_abs}
use lib.Signed.{non_neg}
use mir.Syntax.{w64}
use mir.Val.{SFits}
use Rattle.definitions.specs.Lists.{AllOf}
use Rattle.definitions.specs.Limits.{index_limit, file_number_limit, weight_limit, in_i64}
use Rattle.definitions.specs.Refusal.{Checked, refuse, accept}
use Rattle.definitions.specs.Literal.{index_of, is_index, negated, file_number}
use Rattle.definitions.specs.Row.{Term, Kind, at_least, at_most, equal, objective, Row, row_of, sizes}
use Rattle.definitions.specs.Table.{Table, Outcome, refused, accepted, Entry, terms_at, in_column, indexed, Sort, remark}
use Rattle.definitions.specs.Table.{clause, unknown, weighted, cardinality, sort_of, on_row, row_by_row, and_then}
use Rattle.definitions.specs.Write.{flip_term, flipped_by, flipped, plain_term, unnegated, printed, Item, say, line, weighs}
use Rattle.definitions.specs.Write.{unit_term, one_line, item_by, item_in, has_terms, is_accepted, numbered, bounded, row_allowed}
use Rattle.definitions.specs.Write.{allowed, written_in}
use Rattle.definitions.specs.Back.{options_of}
use Rattle.definitions.specs.declared.Mode.{Mode}
use Rattle.definitions.specs.declared.Options.{Options}
use Rattle.definitions.proofs.Truths.{both, never}
use Rattle.definitions.proofs.Whole.{up_neg, dn-neg, abs_is, is-in, true-in}
use Rattle.definitions.proofs.Meanings.{opposite-half, plain-half}
use Rattle.definitions.proofs.Readback.{GoodTerm}

-- ---- tests that were passed

-- what was accepted behind a test passed it
pub passed : {A : Type 0} (b : Bool) (c : Checked A) (n : ℕ) (y : A) → cond b c (refuse n) ≡ accept y → (b ≡ true) × (c ≡ accept y)
passed true c n y e = (refl, e)
passed false c n y e = never cc

-- what holds of each that is accepted, holds of all
module _ {A B : Type 0} (f : A → Checked B) (P : B → Type 0) (each : (a : A) (b : B) → f a ≡ accept b → P b) where
  pub rows-accepted : (i : ℕ) (l : List A) (bs : List B) → row_by_row f i l ≡ accepted bs → AllOf P bs
  unfolding row_by_row
  rows-accepted i [] [] e = tt
  rows-accepted i [] (b ∷ bs) e = never cc
  rows-accepted i (a ∷ l) bs e = by (f a) refl (row_by_row f (i + 1) l) e (λ xs q. rows-accepted (i + 1) l xs q)
    where
      by : (c : Checked B) → f a ≡ c → (o : Outcome (List B)) → on_row i c o ≡ accepted bs
          → ((xs : List B) → o ≡ accepted xs → AllOf P xs) → AllOf P bs
      by (refuse n) q o e ih = never cc
      by (accept b) q (refused r) e ih = never cc
      by (accept b) q (accepted xs) e ih = let z : b ∷ xs ≡ bs = cc in rw (← z) (each a b q, ih xs refl)

-- ---- what an item that is written has

pub record Placed (first : ℕ) (t : Term) : Type 0 where
  pub index : index_of t.code ≤ index_limit
  pub number : index_of t.code + first ≤ file_number_limit

pub record Writable (m : Mode) (r : Row) : Type 0 where
  pub placed : AllOf (Placed m.first) r.terms
  pub total : sizes r.terms ≤ weight_limit
  pub fits : SFits w64 (printed m.plain r).bound
  pub some : has_terms r.kind r.terms ≡ true

abbrev pub WritableItem : Mode → Item → Type 0
WritableItem m (say t) = one_line t ≡ true
WritableItem m (line r) = Writable m r

has-number : (first v : ℕ) → is_accepted (file_number first v) ≡ true → v + first ≤ file_number_limit
unfolding file_number
has-number first v e = by (leb (v + first) file_number_limit) refl
  where
    by : (b : Bool) → leb (v + first) file_number_limit ≡ b → v + first ≤ file_number_limit
    by true q = leb-true (v + first) file_number_limit q
    by false q =
        let c : is_accepted (file_number first v) ≡ false = rw q in
        never cc

all_placed : (first : ℕ) (ts : List Term) → indexed ts ≡ true → numbered first ts ≡ true → AllOf (Placed first) ts
unfolding indexed numbered
all_placed first [] e f = tt
all_placed first (t ∷ ts) e f =
    let g = both (is_index (index_of t.code)) (indexed ts) e in
    let h = both (is_accepted (file_number first (index_of t.code))) (numbered first ts) f in (
      record {
        index = leb-true (index_of t.code) index_limit g.0;
        number = has-number first (index_of t.code) h.0;
      },
      all_placed first ts g.1 h.1,
    )

row-allowed : (m : Mode) (r : Row) (i : Item) → indexed r.terms ≡ true → row_allowed m r ≡ accept i → WritableItem m i
unfolding row_allowed bounded
row-allowed m r i x e =
    let a = passed (has_terms r.kind r.terms) _ 13 i e in
    let b = passed (numbered m.first r.terms) _ 5 i a.1 in
    let c = passed (bounded m r) (accept (line r)) 8 i b.1 in
    let d = both (leb (sizes r.terms) weight_limit) _ c.0 in
    let f = both (in_i64 (flipped r).bound) (in_i64 (printed m.plain r).bound) d.1 in
    let z : line r ≡ i = let q = c.1 in cc in
    rw (← z)
    (record {
      placed = all_placed m.first r.terms x b.0;
      total = leb-true (sizes r.terms) weight_limit d.0;
      fits = true-in (printed m.plain r).bound f.1;
      some = a.0;
    })

-- what an entry asks to be written: one line, or indexes within their limit
abbrev AskedItem : Item → Type 0
AskedItem (say t) = one_line t ≡ true
AskedItem (line r) = indexed r.terms ≡ true

pub indexed-units : (ts : List Term) → indexed (map unit_term ts) ≡ indexed ts
unfolding indexed unit_term
indexed-units [] = refl
indexed-units (t ∷ ts) = ap (λ (b : Bool). is_index (index_of t.code) && b) (indexed-units ts)

item-asked : (t : Table) (text : List ℕ) (e : Entry) (i : Item) → item_in t text e ≡ accept i → AskedItem i
unfolding item_in
item-asked t text e i q = by (sort_of e.kind) q
  where
    ts : List Term
    ts = terms_at t e

    rows : (b : Bool) (r : Row) → (b ≡ true → indexed r.terms ≡ true)
        → cond (in_column t e && b) (accept (line r)) (refuse 11) ≡ accept i → AskedItem i
    rows b r f q =
        let p = passed (in_column t e && b) (accept (line r)) 11 i q in
        let z : line r ≡ i = let q = p.1 in cc in
        rw (← z) (f (both (in_column t e) b p.0).1)

    by : (k : Sort) → item_by k t text e ≡ accept i → AskedItem i
    by remark q =
        let y = take e.count (drop e.first text) in
        let p = passed (leb (e.first + e.count) (length text)) _ 11 i q in
        let r = passed (one_line y) (accept (say y)) 15 i p.1 in
        let z : say y ≡ i = let q = r.1 in cc in
        rw (← z) r.0
    by clause q = rows (indexed ts) (row_of at_least (pos 1) (map unit_term ts)) (λ h. indexed-units ts ∙ h) q
    by unknown q = never cc
    by (weighted k) q = rows (indexed ts && weighs ts) (row_of k e.bound ts) (λ h. (both (indexed ts) (weighs ts) h).0) q
    by (cardinality k) q =
        rows (indexed ts && non_neg e.bound) (row_of k e.bound (map unit_term ts))
        (λ h. indexed-units ts ∙ (both (indexed ts) (non_neg e.bound) h).0) q

pub item-writable : (m : Mode) (t : Table) (text : List ℕ) (e : Entry) (i : Item) → written_in m t text e ≡ accept i → WritableItem m i
unfolding written_in
item-writable m t text e i q = by (item_in t text e) refl q
  where
    by : (c : Checked Item) → item_in t text e ≡ c → and_then c (allowed m) ≡ accept i → WritableItem m i
    by (refuse n) p q = never cc
    by (accept (say y)) p q = let z : say y ≡ i = cc in rw (← z) (item-asked t text e (say y) p)
    by (accept (line r)) p q = row-allowed m r i (item-asked t text e (line r) p) q

-- ---- what the row has as it is printed

-- a change of terms that keeps each variable and the size of each weight
record Same (h : Term → Term) : Type 0 where
  size : (t : Term) → nat_abs (h t).weight ≡ nat_abs t.weight
  half : (t : Term) → index_of (h t).code ≡ index_of t.code

same-flip : Same flip_term
unfolding flip_term
same-flip = record { size = λ t. refl; half = λ t. opposite-half t.code }

same-plain : Same plain_term
unfolding plain_term
same-plain = record { size = λ t. by (negated t.code) t.weight; half = λ t. plain-half t.code }
  where
    by : (n : Bool) (w : ℤ) → nat_abs (cond n (neg_ℤ w) w) ≡ nat_abs w
    by true w = omega (arith, abs_is w, abs_is (neg_ℤ w), up_neg w, dn-neg w)
    by false w = refl

-- what the printed row keeps
record Ready (first : ℕ) (k : Kind) (ts : List Term) : Type 0 where
  placed : AllOf (Placed first) ts
  total : sizes ts ≤ weight_limit
  some : has_terms k ts ≡ true

module _ (h : Term → Term) (s : Same h) (first : ℕ) where
  sizes-same : (ts : List Term) → sizes (map h ts) ≡ sizes ts
  unfolding sizes
  sizes-same [] = refl
  sizes-same (t ∷ ts) = ap₂ (λ (a b : ℕ). a + b) (s.size t) (sizes-same ts)

  placed_same : (ts : List Term) → AllOf (Placed first) ts → AllOf (Placed first) (map h ts)
  placed_same [] g = tt
  placed_same (t ∷ ts) g = (record { index = rw (s.half t) g.0.index; number = rw (s.half t) g.0.number }, placed_same ts g.1)

  some_same : (k : Kind) (ts : List Term) → has_terms k (map h ts) ≡ has_terms k ts
  some_same at_least ts = ap (leb 1) (length-map ts h)
  some_same at_most ts = ap (leb 1) (length-map ts h)
  some_same equal ts = ap (leb 1) (length-map ts h)
  some_same objective ts = refl

  ready-map : (k : Kind) (ts : List Term) → Ready first k ts → Ready first k (map h ts)
  ready-map k ts r = record { placed = placed_same ts r.placed; total = rw (sizes-same ts) r.total; some = some_same k ts ∙ r.some }

ready-flipped : (first : ℕ) (k : Kind) (b : ℤ) (ts : List Term) → Ready first k ts
    → Ready first (flipped_by k b ts).kind (flipped_by k b ts).terms
ready-flipped first at_least b ts r = r
ready-flipped first at_most b ts r =
    let q = ready-map flip_term same-flip first at_most ts r in record { placed = q.placed; total = q.total; some = q.some }
ready-flipped first equal b ts r = r
ready-flipped first objective b ts r = r

ready-printed : (no_negated : Bool) (first : ℕ) (r : Row) → Ready first r.kind r.terms
    → Ready first (printed no_negated r).kind (printed no_negated r).terms
unfolding printed unnegated flipped
ready-printed true first r q = ready-map plain_term same-plain first _ _ (ready-flipped first r.kind r.bound r.terms q)
ready-printed false first r q = ready-flipped first r.kind r.bound r.terms q

good-terms : (o : Options) (ts : List Term) → AllOf (Placed o.first) ts → sizes ts ≤ weight_limit → AllOf (GoodTerm o.first) ts
unfolding sizes
good-terms o [] g h = tt
good-terms o (t ∷ ts) g h = (
  record {
    fits = is-in t.weight (omega (arith, abs_is t.weight)) (omega (arith, abs_is t.weight));
    index = g.0.index;
    number = g.0.number;
  },
  good-terms o ts g.1 (omega arith),
)

-- what a row has whose text is read
pub record GoodRow (o : Options) (r : Row) : Type 0 where
  pub each : AllOf (GoodTerm o.first) r.terms
  pub total : sizes r.terms ≤ weight_limit
  pub fits : SFits w64 r.bound
  pub some : has_terms r.kind r.terms ≡ true

pub printed-good : (m : Mode) (r : Row) → Writable m r → GoodRow (options_of m) (printed m.plain r)
printed-good m r w =
    let q = ready-printed m.plain m.first r (record { placed = w.placed; total = w.total; some = w.some }) in
    record {
      each = good-terms (options_of m) (printed m.plain r).terms q.placed q.total;
      total = q.total;
      fits = w.fits;
      some = q.some;
    }
