-- A conflict of a literal depends only on what was said of its own variable: the first conflict of a list is the first
-- of those of its parts, where each variable belongs to one part.
use Prim.Native.Nat.{ℕ, ◌+◌, ◌≤◌, ◌<◌, min}
use mathlib.Core.Path.{◌≡◌, refl, sym, ap, ◌∙◌}
use mathlib.Core.Bool.{Bool, true, false, ◌||◌, or-false, or_assoc, and-false}
use mathlib.Core.List.{List, [], ◌∷◌, ◌++◌}
use native.Mathlib.Omega.{arith}
use borrow.Author.Tests.{ltb-true, ltb-false, leb-true, leb-false, eqb-true, lt-ltb, le-ltb, le-leb, lt-leb}
use lib.Dec.{leb, ltb, eqb}
use Rattle.definitions.specs.Limits.{index_limit}
use Rattle.definitions.specs.Literal.{index_of, opposite}
use Rattle.definitions.specs.Values.{among, conflicts}
use Rattle.settling.specs.Flat.{Placed}
use Rattle.heard.specs.Windows.{window_size, conflict_at, only, in_window, below, least_from, PlacesBelow}

-- two of which both cannot be
pub never {ℓ} : {A : Type ℓ} → ◌≡◌ {A = Bool} true false → A
never e = let z : ◌≡◌ {A = ℕ} 0 1 = cc in absurd (omega arith)

-- ---- one step of each definition

module _ (ws ks heard : List ℕ) (end : ℕ) (x : Placed) (xs : List Placed) where
  pub conflict-here : conflicts ws ks heard x.code ≡ true → conflict_at ws ks heard end (x ∷ xs) ≡ x.place
  unfolding conflict_at
  conflict-here e = rw (conflict_at, e)

  pub conflict-later : conflicts ws ks heard x.code ≡ false
      → conflict_at ws ks heard end (x ∷ xs) ≡ conflict_at ws ks (heard ++ (x.code ∷ [])) end xs
  unfolding conflict_at
  conflict-later e = rw (conflict_at, e)

module _ (t : ℕ → Bool) (x : Placed) (xs : List Placed) where
  pub only-in : t (index_of x.code) ≡ true → only t (x ∷ xs) ≡ x ∷ only t xs
  unfolding only
  only-in e = rw (only, e)

  pub only_out : t (index_of x.code) ≡ false → only t (x ∷ xs) ≡ only t xs
  unfolding only
  only_out e = rw (only, e)

-- ---- among, opposite

pub opposite-index : (c : ℕ) → index_of (opposite c) ≡ index_of c
unfolding opposite
opposite-index c = omega arith

pub among-snoc : (n : ℕ) (ms : List ℕ) (m : ℕ) → among n (ms ++ (m ∷ [])) ≡ among n ms || eqb m n
unfolding among
among-snoc n [] m = or-false (eqb m n)
among-snoc n (k ∷ ms) m = ap (λ (b : Bool). eqb k n || b) (among-snoc n ms m) ∙ sym (or_assoc (eqb k n) (among n ms) (eqb m n))

pub conflicts-same : (ws ks a b : List ℕ) (c : ℕ) → among (opposite c) a ≡ among (opposite c) b → conflicts ws ks a c ≡ conflicts ws ks b c
unfolding conflicts
conflicts-same ws ks a b c e = rw e

-- ---- places that ascend

-- each place is at least `from`, and greater than those before it
abbrev pub Ascending : ℕ → List Placed → Type 0
Ascending from [] = Unit {0}
Ascending from (x ∷ xs) = (from ≤ x.place) × Ascending (x.place + 1) xs

pub ascending-from : (m n : ℕ) (xs : List Placed) → m ≤ n → Ascending n xs → Ascending m xs
ascending-from m n [] h a = tt
ascending-from m n (x ∷ xs) h a = (omega (arith, a.0), a.1)

module _ (ws ks : List ℕ) (end from : ℕ) (t : ℕ → Bool) (x : Placed) (xs : List Placed) (h : from ≤ x.place) where
  from-met :
      (heard : List ℕ) → ((hs : List ℕ) → x.place + 1 ≤ conflict_at ws ks hs end (only t xs)) →
      (r : Bool) → conflicts ws ks heard x.code ≡ r → from ≤ conflict_at ws ks heard end (x ∷ only t xs)
  from-met heard rest true e = rw (conflict-here ws ks heard end x (only t xs) e) h
  from-met heard rest false e = rw (conflict-later ws ks heard end x (only t xs) e) (omega (arith, rest (heard ++ (x.code ∷ []))))

  from_step :
      (heard : List ℕ) → ((hs : List ℕ) → x.place + 1 ≤ conflict_at ws ks hs end (only t xs)) →
      (r : Bool) → t (index_of x.code) ≡ r → from ≤ conflict_at ws ks heard end (only t (x ∷ xs))
  from_step heard rest true e = rw (only-in t x xs e) (from-met heard rest (conflicts ws ks heard x.code) refl)
  from_step heard rest false e = rw (only_out t x xs e) (omega (arith, rest heard))

pub conflict-from :
    (ws ks : List ℕ) (end from : ℕ) (t : ℕ → Bool) (xs : List Placed) → from ≤ end → Ascending from xs → PlacesBelow end xs →
    (heard : List ℕ) → from ≤ conflict_at ws ks heard end (only t xs)
unfolding conflict_at only
conflict-from ws ks end from t [] h a b heard = h
conflict-from ws ks end from t (x ∷ xs) h a b heard =
    from_step ws ks end from t x xs a.0 heard (conflict-from ws ks end (x.place + 1) t xs (omega (arith, b.0)) a.1 b.1)
    (t (index_of x.code)) refl

pub conflict-within : (ws ks : List ℕ) (end : ℕ) (t : ℕ → Bool) (xs : List Placed) → PlacesBelow end xs → (heard : List ℕ)
    → conflict_at ws ks heard end (only t xs) ≤ end
unfolding conflict_at only
conflict-within ws ks end t [] b heard = omega arith
conflict-within ws ks end t (x ∷ xs) b heard = step (conflict-within ws ks end t xs b.1) (t (index_of x.code)) refl
  where
    met : ((hs : List ℕ) → conflict_at ws ks hs end (only t xs) ≤ end) → (r : Bool) → conflicts ws ks heard x.code ≡ r
        → conflict_at ws ks heard end (x ∷ only t xs) ≤ end
    met rest true e = rw (conflict-here ws ks heard end x (only t xs) e) (omega (arith, b.0))
    met rest false e = rw (conflict-later ws ks heard end x (only t xs) e) (rest (heard ++ (x.code ∷ [])))

    step : ((hs : List ℕ) → conflict_at ws ks hs end (only t xs) ≤ end) → (r : Bool) → t (index_of x.code) ≡ r
        → conflict_at ws ks heard end (only t (x ∷ xs)) ≤ end
    step rest true e = rw (only-in t x xs e) (met rest (conflicts ws ks heard x.code) refl)
    step rest false e = rw (only_out t x xs e) (rest heard)

-- ---- two parts

-- what holds of every variable
abbrev pub EachVar : (ℕ → Type 0) → List Placed → Type 0
EachVar p [] = Unit {0}
EachVar p (x ∷ xs) = p (index_of x.code) × EachVar p xs

-- a variable belongs to neither part and not to the whole, or to the whole and one part
pub data Part (whole one two : Bool) : Type 0 where
  neither : whole ≡ false → one ≡ false → two ≡ false → Part whole one two
  first : whole ≡ true → one ≡ true → two ≡ false → Part whole one two
  second : whole ≡ true → one ≡ false → two ≡ true → Part whole one two

-- the literals heard, as those of a part see them
abbrev pub Agree : (ℕ → Bool) → List ℕ → List ℕ → Type 0
Agree t os bs = (c : ℕ) → t (index_of c) ≡ true → among (opposite c) os ≡ among (opposite c) bs

-- one more of the same part
agree-both : (t : ℕ → Bool) (os bs : List ℕ) (d : ℕ) → Agree t os bs → Agree t (os ++ (d ∷ [])) (bs ++ (d ∷ []))
agree-both t os bs d h c e = rw (among-snoc (opposite c) os d, among-snoc (opposite c) bs d, h c e)

-- one more of another
agree-other : (t : ℕ → Bool) (os bs : List ℕ) (d : ℕ) → t (index_of d) ≡ false → Agree t os bs → Agree t (os ++ (d ∷ [])) bs
agree-other t os bs d n h c e =
    among-snoc (opposite c) os d ∙ rw (apart (eqb d (opposite c)) refl, h c e) (or-false (among (opposite c) bs))
  where
    apart : (b : Bool) → eqb d (opposite c) ≡ b → b ≡ false
    apart true q = never (sym e ∙ ap t (sym (opposite-index c) ∙ ap index_of (sym (eqb-true d (opposite c) q))) ∙ n)
    apart false q = refl

module _ (ws ks : List ℕ) (end : ℕ) (whole one two : ℕ → Bool) where
  abbrev first_of : (ℕ → Bool) → List ℕ → List Placed → ℕ
  first_of t heard xs = conflict_at ws ks heard end (only t xs)

  abbrev Splits : List Placed → List ℕ → List ℕ → List ℕ → Type 0
  Splits xs heard os bs = first_of whole heard xs ≡ min (first_of one os xs) (first_of two bs xs)

  -- the literal belongs to the first part
  module _ (x : Placed) (xs : List Placed) (heard os bs : List ℕ) where
    abbrev grown : List ℕ → List ℕ
    grown hs = hs ++ (x.code ∷ [])

    in-first :
        conflicts ws ks heard x.code ≡ conflicts ws ks os x.code → x.place ≤ first_of two bs xs
        → Splits xs (grown heard) (grown os) bs →
        (r : Bool) → conflicts ws ks heard x.code ≡ r →
        conflict_at ws ks heard end (x ∷ only whole xs) ≡ min (conflict_at ws ks os end (x ∷ only one xs)) (first_of two bs xs)
    in-first same late rest true e =
        rw (conflict-here ws ks heard end x (only whole xs) e, conflict-here ws ks os end x (only one xs) (sym same ∙ e)) (omega arith)
    in-first same late rest false e =
        rw (conflict-later ws ks heard end x (only whole xs) e, conflict-later ws ks os end x (only one xs) (sym same ∙ e)) rest

    in-second :
        conflicts ws ks heard x.code ≡ conflicts ws ks bs x.code → x.place ≤ first_of one os xs
        → Splits xs (grown heard) os (grown bs) →
        (r : Bool) → conflicts ws ks heard x.code ≡ r →
        conflict_at ws ks heard end (x ∷ only whole xs) ≡ min (first_of one os xs) (conflict_at ws ks bs end (x ∷ only two xs))
    in-second same late rest true e =
        rw (conflict-here ws ks heard end x (only whole xs) e, conflict-here ws ks bs end x (only two xs) (sym same ∙ e)) (omega arith)
    in-second same late rest false e =
        rw (conflict-later ws ks heard end x (only whole xs) e, conflict-later ws ks bs end x (only two xs) (sym same ∙ e)) rest

    step :
        Agree one heard os → Agree two heard bs → Ascending (x.place + 1) xs → x.place < end → PlacesBelow end xs →
        ((hs cs ds : List ℕ) → Agree one hs cs → Agree two hs ds → Splits xs hs cs ds) →
        Part (whole (index_of x.code)) (one (index_of x.code)) (two (index_of x.code)) → Splits (x ∷ xs) heard os bs
    step p q a h b rest (neither u s t) = rw (only_out whole x xs u, only_out one x xs s, only_out two x xs t) (rest heard os bs p q)
    step p q a h b rest (first u s t) =
        rw (only-in whole x xs u, only-in one x xs s, only_out two x xs t)
        (in-first
        (conflicts-same ws ks heard os x.code (p x.code s))
        (omega (arith, conflict-from ws ks end (x.place + 1) two xs (omega arith) a b bs))
        (rest (grown heard) (grown os) bs (agree-both one heard os x.code p) (agree-other two heard bs x.code t q))
        (conflicts ws ks heard x.code)
        refl)
    step p q a h b rest (second u s t) =
        rw (only-in whole x xs u, only_out one x xs s, only-in two x xs t)
        (in-second
        (conflicts-same ws ks heard bs x.code (q x.code t))
        (omega (arith, conflict-from ws ks end (x.place + 1) one xs (omega arith) a b os))
        (rest (grown heard) os (grown bs) (agree-other one heard os x.code s p) (agree-both two heard bs x.code q))
        (conflicts ws ks heard x.code)
        refl)

  pub split :
      (from : ℕ) (xs : List Placed) → Ascending from xs → PlacesBelow end xs → EachVar (λ v. Part (whole v) (one v) (two v)) xs →
      (heard os bs : List ℕ) → Agree one heard os → Agree two heard bs → Splits xs heard os bs
  unfolding conflict_at only
  split from [] a b e heard os bs p q = omega arith
  split from (x ∷ xs) a b e heard os bs p q =
      step x xs heard os bs p q a.1 b.0 b.1 (split (x.place + 1) xs a.1 b.1 e.1) e.0

-- ---- some, none or all of a list

pub only_none : (t : ℕ → Bool) (xs : List Placed) → EachVar (λ v. t v ≡ false) xs → only t xs ≡ []
unfolding only
only_none t [] e = refl
only_none t (x ∷ xs) e = only_out t x xs e.0 ∙ only_none t xs e.1

pub only-all : (t : ℕ → Bool) (xs : List Placed) → EachVar (λ v. t v ≡ true) xs → only t xs ≡ xs
unfolding only
only-all t [] e = refl
only-all t (x ∷ xs) e = only-in t x xs e.0 ∙ ap (λ (ys : List Placed). x ∷ ys) (only-all t xs e.1)

pub each_from : (p q : ℕ → Type 0) → ((v : ℕ) → p v → q v) → (xs : List Placed) → EachVar p xs → EachVar q xs
each_from p q f [] e = tt
each_from p q f (x ∷ xs) e = (f (index_of x.code) e.0, each_from p q f xs e.1)

pub each-var : (p : ℕ → Type 0) → ((v : ℕ) → p v) → (xs : List Placed) → EachVar p xs
each-var p f [] = tt
each-var p f (x ∷ xs) = (f (index_of x.code), each-var p f xs)

pub each_both : (p q : ℕ → Type 0) (xs : List Placed) → EachVar p xs → EachVar q xs → EachVar (λ v. p v × q v) xs
each_both p q [] e f = tt
each_both p q (x ∷ xs) e f = ((e.0, f.0), each_both p q xs e.1 f.1)

-- ---- the least variable from n on

module _ (n : ℕ) (x : Placed) (xs : List Placed) where
  pub least-here : n ≤ index_of x.code → least_from n (x ∷ xs) ≡ min (index_of x.code) (least_from n xs)
  unfolding least_from
  least-here h = rw (le-leb n (index_of x.code) h)

  pub least_on : index_of x.code < n → least_from n (x ∷ xs) ≡ least_from n xs
  unfolding least_from
  least_on h = rw (lt-leb n (index_of x.code) h)

-- it is none of those before n, and no variable lies between
pub record Least (n : ℕ) (xs : List Placed) : Type 0 where
  pub least : min n (index_limit + 1) ≤ least_from n xs
  pub greatest : least_from n xs ≤ index_limit + 1
  pub gap : (m : ℕ) → m ≤ least_from n xs → EachVar (λ v. n ≤ v → m ≤ v) xs

pub least-is : (n : ℕ) (xs : List Placed) → Least n xs
unfolding least_from
least-is n [] = record { least = omega arith; greatest = omega arith; gap = λ m h. tt }
least-is n (x ∷ xs) = step (least-is n xs) (leb n v) refl
  where
    v : ℕ
    v = index_of x.code

    step : Least n xs → (r : Bool) → leb n v ≡ r → Least n (x ∷ xs)
    step k true e =
        let l = least-here n x xs (leb-true n v e) in
        record {
          least = omega (arith, l, leb-true n v e, k.least);
          greatest = omega (arith, l, k.greatest);
          gap = λ m h. ((λ g. omega (arith, l, h)), k.gap m (omega (arith, l, h)));
        }
    step k false e =
        let l = least_on n x xs (leb-false n v e) in
        record {
          least = omega (arith, l, k.least);
          greatest = omega (arith, l, k.greatest);
          gap = λ m h. ((λ g. absurd (omega (arith, g, leb-false n v e))), k.gap m (omega (arith, l, h)));
        }

-- ---- window by window

abbrev pub Known : List Placed → Type 0
Known xs = EachVar (λ v. v ≤ index_limit) xs

-- a variable of the window, by its bounds
pub window-in : (base v : ℕ) → base ≤ v → v < base + window_size → in_window base v ≡ true
window-in base v h k = rw (le-leb base v h, lt-ltb v (base + window_size) k)

pub window-before : (base v : ℕ) → v < base → in_window base v ≡ false
window-before base v h = rw (lt-leb base v h)

pub window-behind : (base v : ℕ) → base + window_size ≤ v → in_window base v ≡ false
window-behind base v h = rw (le-ltb v (base + window_size) h) (and-false (leb base v))

-- the variables below the next window's front are those below this one's, and its own
part_at : (base next v : ℕ) → base ≤ index_limit → min (base + window_size) (index_limit + 1) ≤ next → v ≤ index_limit
    → (base + window_size ≤ v → next ≤ v)
    → Part (below next v) (below base v) (in_window base v)
part_at base next v h k l g = before (ltb v base) refl
  where
    behind : base ≤ v → (r : Bool) → ltb v (base + window_size) ≡ r → Part (below next v) (below base v) (in_window base v)
    behind q true e =
        let u = ltb-true v (base + window_size) e in second (lt-ltb v next (omega arith)) (le-ltb v base q) (window-in base v q u)
    behind q false e =
        let u = ltb-false v (base + window_size) e in
        let w = g u in
        neither (le-ltb v next w) (le-ltb v base q) (window-behind base v u)

    before : (r : Bool) → ltb v base ≡ r → Part (below next v) (below base v) (in_window base v)
    before true e = let u = ltb-true v base e in first (lt-ltb v next (omega arith)) (lt-ltb v base u) (window-before base v u)
    before false e = behind (ltb-false v base e) (ltb v (base + window_size)) refl

module _ (ws ks : List ℕ) (end : ℕ) (xs : List Placed) where
  -- the first conflict of the variables below base
  abbrev pub first_below : ℕ → ℕ
  first_below base = conflict_at ws ks [] end (only (below base) xs)

  pub windows-start : end ≡ first_below 0
  unfolding conflict_at
  windows-start = rw (only_none (below 0) xs (each-var (λ v. below 0 v ≡ false) (λ v. le-ltb v 0 (omega arith)) xs))

  module _ (a : Ascending 0 xs) (b : PlacesBelow end xs) (k : Known xs) (base : ℕ) where
    pub windows-step :
        base ≤ index_limit → min (first_below base) (conflict_at ws ks [] end (only (in_window base) xs))
        ≡ first_below (least_from (base + window_size) xs)
    windows-step h =
        let next = least_from (base + window_size) xs in
        let l = least-is (base + window_size) xs in
        let parts : EachVar (λ v. Part (below next v) (below base v) (in_window base v)) xs = each_from
        (λ v. (v ≤ index_limit) × (base + window_size ≤ v → next ≤ v))
        (λ v. Part (below next v) (below base v) (in_window base v))
        (λ v q. part_at base next v h l.least q.0 q.1)
        xs
        (each_both (λ v. v ≤ index_limit) (λ v. base + window_size ≤ v → next ≤ v) xs k (l.gap next (omega arith))) in
        sym (split ws ks end (below next) (below base) (in_window base) 0 xs a b parts [] [] [] (λ c e. refl) (λ c e. refl))

    pub windows-end : index_limit < base → first_below base ≡ conflict_at ws ks [] end xs
    windows-end h =
        ap (conflict_at ws ks [] end)
        (only-all (below base) xs
        (each_from (λ v. v ≤ index_limit) (λ v. below base v ≡ true) (λ v q. lt-ltb v base (omega (arith, q))) xs k))
