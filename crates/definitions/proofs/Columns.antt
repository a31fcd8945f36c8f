-- How do columns fill? Laws of `over`, one entry or one part at a time; of `filled`, line by line; and of `row_by_row`,
-- for a walk that has passed some rows.
use Prim.Native.Nat.{ℕ, suc, ◌+◌, ◌-◌, ◌≤◌, ◌<◌}
use mathlib.Core.Path.{◌≡◌, refl, sym, ap, ◌∙◌}
use mathlib.Core.Bool.{Bool, true, false, cond}
use mathlib.Core.List.{List, [], ◌∷◌, ◌++◌, map, map-append, append_assoc, append-nil}
use native.Mathlib.Omega.{arith}
use native.Mathlib.Numerals.{add-one}
use borrow.Author.Tests.{leb-true, le-leb}
use borrow.Rule.Slice.PartMut.{put_mid}
use lib.Dec.{leb}
use lib.IntN.{ℤ}
use lib.ListN.{length, take, drop, get_or, set, length-append, length-drop, length-map, drop_of_length-le}
use lib.Seq.{drop-cons, drop-drop, set-append_seam, take-append_seam, drop-append_seam}
use Rattle.definitions.specs.Lists.{over, joined, AllOf}
use Rattle.definitions.specs.Refusal.{Refusal, refusal, needed, Checked, refuse, accept}
use Rattle.definitions.specs.Row.{Term, weight_of, literal_of, Line, terms_of}
use Rattle.definitions.specs.Table.{Table, table, row_room, term_room, Outcome, refused, accepted, kind_in, first_in, count_in}
use Rattle.definitions.specs.Table.{bound_in, firsts_from, all_terms, filled, fitted, on_row, row_by_row, and_then}
use Rattle.definitions.proofs.Parts.{part-is}
use Rattle.definitions.proofs.Truths.{never}

-- ---- `over`

module _ {A : Type 0} where
  pub over-length : (xs l : List A) → length xs ≤ length l → length (over xs l) ≡ length l
  over-length xs l h = omega (arith, length-append xs (drop (length xs) l), length-drop (length xs) l)

  -- one entry more
  pub over-set : (xs l : List A) (n : ℕ) (a : A) → n ≡ length xs → n < length l → set (over xs l) n a ≡ over (xs ++ (a ∷ [])) l
  over-set xs l n a e h =
      ap (λ (k : ℕ). set (over xs l) k a) e
      ∙ ap (λ (r : List A). set (xs ++ r) (length xs) a) (drop-cons l (length xs) a (omega arith))
      ∙ set-append_seam xs (get_or l (length xs) a) (drop (suc (length xs)) l) a
      ∙ ap (λ (k : ℕ). xs ++ a ∷ drop k l) (sym (length-append xs (a ∷ []) ∙ add-one (length xs)))
      ∙ sym (append_assoc xs (a ∷ []) (drop (length (xs ++ (a ∷ []))) l))

  -- a part more, which was lent from n on
  pub over-part : (xs ys l : List A) (n : ℕ) → n ≡ length xs → take n (over xs l) ++ over ys (drop n (over xs l)) ≡ over (xs ++ ys) l
  over-part xs ys l n e =
      ap (λ (k : ℕ). take k (over xs l) ++ over ys (drop k (over xs l))) e
      ∙ ap (λ (r : List A). r ++ over ys (drop (length xs) (over xs l))) (take-append_seam xs (drop (length xs) l))
      ∙ ap (λ (r : List A). xs ++ over ys r) (drop-append_seam xs (drop (length xs) l))
      ∙ ap (λ (r : List A). xs ++ (ys ++ r)) (drop-drop (length ys) (length xs) l ∙ ap (λ (k : ℕ). drop k l) (sym (length-append xs ys)))
      ∙ sym (append_assoc xs ys (drop (length (xs ++ ys)) l))

  -- the part from n to the end, as a call that is lent it sees it, and as it comes back
  pub rest_of : (l : List A) (n : ℕ) → take (length l - n) (drop n l) ≡ drop n l
  rest_of = part-is

  put_rest : (l ys : List A) (n : ℕ) → put_mid n (length l - n) l ys ≡ take n l ++ ys
  put_rest l ys n =
      ap (λ (r : List A). take n l ++ (ys ++ r)) (drop_of_length-le (drop n l) {i = length l - n} (omega (arith, length-drop n l)))
      ∙ ap (λ (r : List A). take n l ++ r) (append-nil ys)

  pub part-back : (l xs ys : List A) (n : ℕ) → ys ≡ over xs (take (length l - n) (drop n l))
      → put_mid n (length l - n) l ys ≡ take n l ++ over xs (drop n l)
  part-back l xs ys n e = put_rest l ys n ∙ ap (λ (r : List A). take n l ++ r) (e ∙ ap (over xs) (rest_of l n))

-- ---- one more at the end of a list

module _ {A B : Type 0} where
  pub map_snoc : (f : A → B) (xs : List A) (a : A) → map f (xs ++ (a ∷ [])) ≡ map f xs ++ (f a ∷ [])
  map_snoc f [] a = refl
  map_snoc f (x ∷ xs) a = ap (λ (r : List B). f x ∷ r) (map_snoc f xs a)

  pub joined-append : (f : A → List B) (xs ys : List A) → joined f (xs ++ ys) ≡ joined f xs ++ joined f ys
  unfolding joined
  joined-append f [] ys = refl
  joined-append f (x ∷ xs) ys = ap (λ (r : List B). f x ++ r) (joined-append f xs ys) ∙ sym (append_assoc (f x) (joined f xs) (joined f ys))

  pub joined_snoc : (f : A → List B) (xs : List A) (a : A) → joined f (xs ++ (a ∷ [])) ≡ joined f xs ++ f a
  unfolding joined
  joined_snoc f xs a = joined-append f xs (a ∷ []) ∙ ap (λ (r : List B). joined f xs ++ r) (append-nil (f a))

-- a column that holds f of each: as long as it was, and one more
module _ {A B : Type 0} (f : A → B) (pre : List A) (l₀ l : List B) (e : l ≡ over (map f pre) l₀) where
  pub column-length : length pre ≤ length l₀ → length l ≡ length l₀
  column-length h = ap length e ∙ over-length (map f pre) l₀ (omega (arith, length-map pre f))

  pub column-more : (n : ℕ) (a : A) → n ≡ length pre → n < length l₀ → set l n (f a) ≡ over (map f (pre ++ (a ∷ []))) l₀
  column-more n a q h =
      ap (λ (x : List B). set x n (f a)) e ∙ over-set (map f pre) l₀ n (f a) (q ∙ sym (length-map pre f)) h
      ∙ ap (λ (x : List B). over x l₀) (sym (map_snoc f pre a))

pub firsts-length : (ls : List Line) (m : ℕ) → length (firsts_from m ls) ≡ length ls
unfolding firsts_from
firsts-length [] m = refl
firsts-length (l ∷ ls) m = ap suc (firsts-length ls (m + length (terms_of l)))

pub firsts-snoc : (ls : List Line) (l : Line) (m : ℕ)
    → firsts_from m (ls ++ (l ∷ [])) ≡ firsts_from m ls ++ (first_in (m + length (all_terms ls)) l ∷ [])
unfolding firsts_from joined
firsts-snoc [] l m = ap (λ (k : ℕ). first_in k l ∷ []) (omega arith)
firsts-snoc (x ∷ ls) l m =
    let e : m + length (terms_of x) + length (all_terms ls) ≡ m + length (terms_of x ++ all_terms ls) =
    omega (arith, length-append (terms_of x) (all_terms ls)) in
    ap (λ (r : List ℕ). first_in m x ∷ r)
    (firsts-snoc ls l (m + length (terms_of x)) ∙ ap (λ (k : ℕ). firsts_from (m + length (terms_of x)) ls ++ (first_in k l ∷ [])) e)

pub terms-snoc : (ls : List Line) (l : Line) → length (all_terms (ls ++ (l ∷ []))) ≡ length (all_terms ls) + length (terms_of l)
terms-snoc ls l = ap length (joined_snoc terms_of ls l) ∙ length-append (all_terms ls) (terms_of l)

-- ---- a table filled line by line

pub filled_none : (o : Table) → filled [] o ≡ o
unfolding filled firsts_from joined
filled_none o = refl

pub record Lengths (t o : Table) : Type 0 where
  pub kinds : length t.kinds ≡ length o.kinds
  pub firsts : length t.firsts ≡ length o.firsts
  pub counts : length t.counts ≡ length o.counts
  pub bounds : length t.bounds ≡ length o.bounds
  pub weights : length t.weights ≡ length o.weights
  pub literals : length t.literals ≡ length o.literals

-- each column is as long as it was
pub filled-lengths : (ls : List Line) (o : Table) → length ls ≤ row_room o → length (all_terms ls) ≤ term_room o → Lengths (filled ls o) o
unfolding filled
filled-lengths ls o h g =
    record {
      kinds = column-length kind_in ls o.kinds _ refl (omega arith);
      firsts = over-length (firsts_from 0 ls) o.firsts (omega (arith, firsts-length ls 0));
      counts = column-length count_in ls o.counts _ refl (omega arith);
      bounds = column-length bound_in ls o.bounds _ refl (omega arith);
      weights = column-length weight_of (all_terms ls) o.weights _ refl (omega arith);
      literals = column-length literal_of (all_terms ls) o.literals _ refl (omega arith);
    }

table_eq : {k k' f f' n n' l l' : List ℕ} {b b' w w' : List ℤ} → k ≡ k' → f ≡ f' → n ≡ n' → b ≡ b' → w ≡ w' → l ≡ l'
    → table k f n b w l ≡ table k' f' n' b' w' l'
table_eq p q r s t u = λ x. table (p x) (q x) (r x) (s x) (t x) (u x)

-- a line more, behind ls
module _ (ls : List Line) (y : Line) (o : Table) (n m : ℕ) (rows : n ≡ length ls) (terms : m ≡ length (all_terms ls))
    (room : n < row_room o) where
  firsts_more : set (over (firsts_from 0 ls) o.firsts) n (first_in m y) ≡ over (firsts_from 0 (ls ++ (y ∷ []))) o.firsts
  firsts_more =
      over-set (firsts_from 0 ls) o.firsts n (first_in m y) (rows ∙ sym (firsts-length ls 0)) (omega arith)
      ∙ ap (λ (k : ℕ). over (firsts_from 0 ls ++ (first_in k y ∷ [])) o.firsts) (omega arith)
      ∙ ap (λ (r : List ℕ). over r o.firsts) (sym (firsts-snoc ls y 0))

  terms-more : {A : Type 0} (f : Term → A) (l : List A)
      → take m (over (map f (all_terms ls)) l) ++ over (map f (terms_of y)) (drop m (over (map f (all_terms ls)) l))
      ≡ over (map f (all_terms (ls ++ (y ∷ [])))) l
  terms-more {A} f l =
      over-part (map f (all_terms ls)) (map f (terms_of y)) l m (terms ∙ sym (length-map (all_terms ls) f))
      ∙ ap (λ (r : List A). over r l) (sym (ap (map f) (joined_snoc terms_of ls y) ∙ map-append f (all_terms ls) (terms_of y)))

  pub filled_more : (t : Table) (w : List ℤ) (l : List ℕ) → t ≡ filled ls o
      → w ≡ take m t.weights ++ over (map weight_of (terms_of y)) (drop m t.weights)
      → l ≡ take m t.literals ++ over (map literal_of (terms_of y)) (drop m t.literals)
      → table (set t.kinds n (kind_in y)) (set t.firsts n (first_in m y)) (set t.counts n (count_in y))
      (set t.bounds n (bound_in y)) w l ≡ filled (ls ++ (y ∷ [])) o
  unfolding filled
  filled_more t w l e p q =
      table_eq
      (column-more kind_in ls o.kinds t.kinds (ap (λ (x : Table). x.kinds) e) n y rows (omega arith))
      (ap (λ (x : Table). set x.firsts n (first_in m y)) e ∙ firsts_more)
      (column-more count_in ls o.counts t.counts (ap (λ (x : Table). x.counts) e) n y rows (omega arith))
      (column-more bound_in ls o.bounds t.bounds (ap (λ (x : Table). x.bounds) e) n y rows (omega arith))
      (p ∙ ap (λ (x : Table). take m x.weights ++ over (map weight_of (terms_of y)) (drop m x.weights)) e
      ∙ terms-more weight_of o.weights)
      (q ∙ ap (λ (x : Table). take m x.literals ++ over (map literal_of (terms_of y)) (drop m x.literals)) e
      ∙ terms-more literal_of o.literals)

-- ---- row by row

module _ {B : Type 0} where
  abbrev pub onto : List B → Outcome (List B) → Outcome (List B)
  onto pre (refused r) = refused r
  onto pre (accepted bs) = accepted (pre ++ bs)

  onto-none : (o : Outcome (List B)) → o ≡ onto [] o
  onto-none (refused r) = refl
  onto-none (accepted bs) = refl

  onto-row : (pre : List B) (i : ℕ) (b : B) (o : Outcome (List B)) → onto pre (on_row i (accept b) o) ≡ onto (pre ++ (b ∷ [])) o
  onto-row pre i b (refused r) = refl
  onto-row pre i b (accepted bs) = ap accepted (sym (append_assoc pre (b ∷ []) bs))

  -- those that were accepted begin with those passed
  pub record Begins (pre bs : List B) : Type 0 where
    pub rest : List B
    pub is : bs ≡ pre ++ rest

  begins-by : (pre bs : List B) (o : Outcome (List B)) → onto pre o ≡ accepted bs → Begins pre bs
  begins-by pre bs (refused r) e = never cc
  begins-by pre bs (accepted q) e = record { rest = q; is = cc }

  pub begins-length : (pre bs : List B) → Begins pre bs → length pre ≤ length bs
  begins-length pre bs p = omega (arith, ap length p.is, length-append pre p.rest)

pub begins-terms : (pre ls : List Line) → Begins pre ls → length (all_terms pre) ≤ length (all_terms ls)
begins-terms pre ls p =
    omega (
      arith,
      ap (λ (x : List Line). length (all_terms x)) p.is ∙ ap length (joined-append terms_of pre p.rest)
          ∙ length-append (all_terms pre) (all_terms p.rest),
    )

module _ {A B : Type 0} (f : A → Checked B) (es : List A) where
  -- i rows passed, which gave pre
  pub record Passed (i : ℕ) (pre : List B) : Type 0 where
    pub count : length pre ≡ i
    pub split : row_by_row f 0 es ≡ onto pre (row_by_row f i (drop i es))

  pub passed_none : Passed 0 []
  passed_none = record { count = refl; split = onto-none (row_by_row f 0 es) }

  module _ (i : ℕ) (pre : List B) (p : Passed i pre) where
    pub passed-all : drop i es ≡ [] → row_by_row f 0 es ≡ accepted pre
    unfolding row_by_row
    passed-all e = p.split ∙ ap (λ (l : List A). onto pre (row_by_row f i l)) e ∙ ap accepted (append-nil pre)

    module _ (a : A) (d : drop i es ≡ a ∷ drop (i + 1) es) where
      at_row : row_by_row f 0 es ≡ onto pre (on_row i (f a) (row_by_row f (i + 1) (drop (i + 1) es)))
      unfolding row_by_row
      at_row = p.split ∙ ap (λ (l : List A). onto pre (row_by_row f i l)) d

      pub passed-refused : (n : ℕ) → f a ≡ refuse n → row_by_row f 0 es ≡ refused (refusal n i)
      passed-refused n e = at_row ∙ ap (λ (c : Checked B). onto pre (on_row i c (row_by_row f (i + 1) (drop (i + 1) es)))) e

      pub passed-more : (b : B) → f a ≡ accept b → Passed (i + 1) (pre ++ (b ∷ []))
      passed-more b e =
          record {
            count = omega (arith, length-append pre (b ∷ []), p.count);
            split = at_row
                ∙ ap (λ (c : Checked B). onto pre (on_row i c (row_by_row f (i + 1) (drop (i + 1) es)))) e
                ∙ onto-row pre i b (row_by_row f (i + 1) (drop (i + 1) es));
          }

      -- where all are accepted, so is this one
      module _ (bs : List B) (all : row_by_row f 0 es ≡ accepted bs) where
        pub record Next : Type 0 where
          pub value : B
          pub accepts : f a ≡ accept value

        pub passed-next : Next
        passed-next = by (f a) refl
          where
            by : (c : Checked B) → f a ≡ c → Next
            by (refuse n) e = clash (passed-refused n e) all
              where
                clash : {o : Outcome (List B)} {r : Refusal} → o ≡ refused r → o ≡ accepted bs → Next
                clash x y = never cc
            by (accept b) e = record { value = b; accepts = e }

    pub passed-begins : (bs : List B) → row_by_row f 0 es ≡ accepted bs → Begins pre bs
    passed-begins bs e = begins-by pre bs (row_by_row f i (drop i es)) (sym p.split ∙ e)

-- two checks one after the other, of which the second gives k of what the first gave
module _ {A B C : Type 0} (g : A → Checked B) (h : B → Checked C) (k : B → C) (each : (b : B) (c : C) → h b ≡ accept c → c ≡ k b) where
  pub record Both (i : ℕ) (l : List A) (cs : List C) : Type 0 where
    pub first : List B
    pub accepts : row_by_row g i l ≡ accepted first
    pub then : cs ≡ map k first

  pub rows_both : (i : ℕ) (l : List A) (cs : List C) → row_by_row (λ (a : A). and_then (g a) h) i l ≡ accepted cs → Both i l cs
  unfolding row_by_row
  rows_both i [] cs e = record { first = []; accepts = refl; then = cc }
  rows_both i (a ∷ l) cs e = by (g a) refl (row_by_row (λ (x : A). and_then (g x) h) (i + 1) l) e (λ xs q. rows_both (i + 1) l xs q)
    where
      by : (c : Checked B) → g a ≡ c → (o : Outcome (List C)) → on_row i (and_then c h) o ≡ accepted cs
          → ((xs : List C) → o ≡ accepted xs → Both (i + 1) l xs) → Both i (a ∷ l) cs
      by (refuse n) q o e ih = never cc
      by (accept b) q o e ih = on (h b) refl o e ih
        where
          on : (d : Checked C) → h b ≡ d → (o : Outcome (List C)) → on_row i d o ≡ accepted cs
              → ((xs : List C) → o ≡ accepted xs → Both (i + 1) l xs) → Both i (a ∷ l) cs
          on (refuse n) p o e ih = never cc
          on (accept c) p (refused r) e ih = never cc
          on (accept c) p (accepted xs) e ih =
              let m = ih xs refl in
              let z : c ∷ xs ≡ cs = cc in
              let w = each b c p in
              record {
                first = b ∷ m.first;
                accepts = rw (q, m.accepts);
                then = sym z ∙ (λ j. w j ∷ m.then j);
              }

-- a second check that gives what it was given
pub rows-again : {A B : Type 0} (g : A → Checked B) (h : B → Checked B) (i : ℕ) (l : List A) (bs : List B)
    → row_by_row g i l ≡ accepted bs → AllOf (λ (b : B). h b ≡ accept b) bs
    → row_by_row (λ (a : A). and_then (g a) h) i l ≡ accepted bs
unfolding row_by_row
rows-again g h i [] bs e x = e
rows-again {A} {B} g h i (a ∷ l) bs e x = by (g a) refl (row_by_row g (i + 1) l) bs e x (λ ys q y. rows-again g h (i + 1) l ys q y)
  where
    by : (c : Checked B) → g a ≡ c → (o : Outcome (List B)) (bs : List B) → on_row i c o ≡ accepted bs → AllOf (λ (b : B). h b ≡ accept b) bs
        → ((ys : List B) → o ≡ accepted ys → AllOf (λ (b : B). h b ≡ accept b) ys
        → row_by_row (λ (y : A). and_then (g y) h) (i + 1) l ≡ accepted ys)
        → on_row i (and_then (g a) h) (row_by_row (λ (y : A). and_then (g y) h) (i + 1) l) ≡ accepted bs
    by (refuse n) q o bs e x ih = never cc
    by (accept b) q (refused r) bs e x ih = never cc
    by (accept b) q (accepted xs) [] e x ih = never cc
    by (accept b) q (accepted xs) (y ∷ ys) e x ih =
        let u : b ≡ y = cc in
        let v : xs ≡ ys = cc in
        rw (q, u, x.0, ih ys (ap accepted v) x.1)

-- ---- what fits

pub record Fits (o : Table) (q : Outcome (List Line)) (ls : List Line) : Type 0 where
  pub accepts : q ≡ accepted ls
  pub rows : length ls ≤ row_room o
  pub terms : length (all_terms ls) ≤ term_room o

pub fitted-accepted : (o : Table) (q : Outcome (List Line)) (ls : List Line) → fitted o q ≡ accepted ls → Fits o q ls
unfolding fitted
fitted-accepted o (refused r) ls e = never cc
fitted-accepted o (accepted ys) ls e = by (leb (length ys) (row_room o)) refl (leb (length (all_terms ys)) (term_room o)) refl e
  where
    by : (p : Bool) → leb (length ys) (row_room o) ≡ p → (s : Bool) → leb (length (all_terms ys)) (term_room o) ≡ s
        → cond p (cond s (accepted ys) (refused (refusal 10 (needed (length (all_terms ys))))))
        (refused (refusal 9 (needed (length ys)))) ≡ accepted ls → Fits o (accepted ys) ls
    by true u true v e =
        let z : ys ≡ ls = cc in
        rw (← z) (record {
          accepts = refl;
          rows = leb-true (length ys) (row_room o) u;
          terms = leb-true (length (all_terms ys)) (term_room o) v;
        })
    by true u false v e = never cc
    by false u s v e = never cc

pub fitted-all : (o : Table) (ls : List Line) → length ls ≤ row_room o → length (all_terms ls) ≤ term_room o
    → fitted o (accepted ls) ≡ accepted ls
unfolding fitted
fitted-all o ls r n = rw (le-leb (length ls) (row_room o) r, le-leb (length (all_terms ls)) (term_room o) n)
