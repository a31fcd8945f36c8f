-- Do a row, its normal form and its printed form mean the same? Every assignment finds them alike: whether they hold,
-- and an objective's value.
use Prim.Native.Nat.{ℕ, suc, ◌-◌, ◌/◌, ◌%◌}
use mathlib.Core.Path.{◌≡◌, refl, sym, ap, ap₂, ◌∙◌}
use mathlib.Core.Bool.{Bool, true, false, cond, not, ◌&&◌}
use mathlib.Core.List.{List, [], ◌∷◌, map}
use native.Mathlib.Omega.{arith}
use borrow.Author.Tests.{eq-eqb, ne_eqb, eqb-true, eqb-false}
use lib.IntN.{ℤ, pos, negsuc, neg_ℤ, ◌+ℤ◌, ◌-ℤ◌, +ℤ_idr, +ℤ_idl, +ℤ_invr, +ℤ_invl}
use lib.Signed.{le_z}
use Rattle.definitions.proofs.Truths.{never}
use Rattle.definitions.proofs.Whole.{up, dn, sum_is, diff_is, same, le_same}
use Rattle.definitions.specs.Literal.{negated, opposite, plain}
use Rattle.definitions.specs.Row.{Term, weight_of, Kind, at_least, at_most, equal, objective, Row}
use Rattle.definitions.specs.Meaning.{is_true, sum_of, holds_by, holds, value_of}
use Rattle.definitions.specs.Normal.{moved, total_by, shifted, normal_by, normal_term, rise_by, rise, normal}
use Rattle.definitions.specs.Write.{flip_term, flipped_by, flipped, plain_term, fall, unnegated, printed}

-- ---- literals

module _ (c : ℕ) where
  pub opposite-half : opposite c / 2 ≡ c / 2
  unfolding opposite
  opposite-half = omega arith

  opposite-odd : opposite c % 2 ≡ 1 - c % 2
  unfolding opposite
  opposite-odd = omega arith

  pub plain-half : plain c / 2 ≡ c / 2
  unfolding plain
  plain-half = omega arith

  plain-even : plain c % 2 ≡ 0
  unfolding plain
  plain-even = omega arith

  pub plain-not-negated : negated (plain c) ≡ false
  plain-not-negated = ne_eqb (plain c % 2) 1 (λ e. omega (arith, plain-even))

not-not : (b : Bool) → not (not b) ≡ b
not-not true = refl
not-not false = refl

negated-opposite : (c : ℕ) → negated (opposite c) ≡ not (negated c)
negated-opposite c = cases (negated c) refl
  where
    cases : (b : Bool) → negated c ≡ b → negated (opposite c) ≡ not b
    cases true e = ne_eqb (opposite c % 2) 1 (λ q. omega (arith, opposite-odd c, eqb-true (c % 2) 1 e))
    cases false e =
        let z : c % 2 ≡ 1 → ⊥ = eqb-false (c % 2) 1 e in
        eq-eqb (opposite c % 2) 1 (omega (arith, opposite-odd c))

true-opposite : (a : ℕ → Bool) (c : ℕ) → is_true a (opposite c) ≡ not (is_true a c)
unfolding is_true
true-opposite a c = rw (negated-opposite c, opposite-half c) (cases (negated c))
  where
    cases : (b : Bool) → cond (not b) (not (a (c / 2))) (a (c / 2)) ≡ not (cond b (not (a (c / 2))) (a (c / 2)))
    cases true = sym (not-not (a (c / 2)))
    cases false = refl

true-plain : (a : ℕ → Bool) (c : ℕ) → is_true a (plain c) ≡ cond (negated c) (not (is_true a c)) (is_true a c)
unfolding is_true
true-plain a c = rw (plain-even c, plain-half c) (cases (negated c))
  where
    cases : (b : Bool) → a (c / 2) ≡ cond b (not (cond b (not (a (c / 2))) (a (c / 2)))) (cond b (not (a (c / 2))) (a (c / 2)))
    cases true = sym (not-not (a (c / 2)))
    cases false = refl

-- ---- a change of each term that moves the sum by what no assignment changes

abbrev counted : (ℕ → Bool) → Term → ℤ
counted a t = cond (is_true a t.code) t.weight (pos 0)

module _ (a : ℕ → Bool) (f : Term → Term) (g : Term → ℤ) (e : (t : Term) → counted a (f t) ≡ counted a t +ℤ g t) where
  sum_shifted : (ts : List Term) → sum_of a (map f ts) ≡ sum_of a ts +ℤ total_by g ts
  unfolding sum_of total_by
  sum_shifted [] = refl
  sum_shifted (t ∷ ts) =
      let x = counted a t in
      let y = sum_of a ts in
      let d = total_by g ts in
      ap₂ (λ (p q : ℤ). p +ℤ q) (e t) (sum_shifted ts)
      ∙ same ((x +ℤ g t) +ℤ (y +ℤ d)) ((x +ℤ y) +ℤ (g t +ℤ d))
      (omega (arith, sum_is (x +ℤ g t) (y +ℤ d), sum_is x (g t), sum_is y d, sum_is (x +ℤ y) (g t +ℤ d), sum_is x y, sum_is (g t) d))

  holds_by_lem : (k : Kind) (b s d : ℤ) → holds_by k (s +ℤ d) (moved k b d) ≡ holds_by k s b
  holds_by_lem k b s d = cases k
    where
      low : le_z (b +ℤ d) (s +ℤ d) ≡ le_z b s
      low = le_same (b +ℤ d) (s +ℤ d) b s (omega (arith, sum_is b d, sum_is s d))

      high : le_z (s +ℤ d) (b +ℤ d) ≡ le_z s b
      high = le_same (s +ℤ d) (b +ℤ d) s b (omega (arith, sum_is b d, sum_is s d))

      cases : (k : Kind) → holds_by k (s +ℤ d) (moved k b d) ≡ holds_by k s b
      cases at_least = low
      cases at_most = high
      cases equal = ap₂ (λ (p q : Bool). p && q) high low
      cases objective = refl

  holds-shifted : (r : Row) → holds a (shifted f g r) ≡ holds a r
  unfolding holds
  holds-shifted r = rw (sum_shifted r.terms) (holds_by_lem r.kind r.bound (sum_of a r.terms) (total_by g r.terms))

  value_shifted : (r : Row) → r.kind ≡ objective → value_of a (shifted f g r) ≡ value_of a r
  unfolding value_of
  value_shifted r k =
      let s = sum_of a r.terms in
      let d = total_by g r.terms in
      let b = r.bound in
      rw (sum_shifted r.terms, k)
      (same ((s +ℤ d) +ℤ (b -ℤ d)) (s +ℤ b)
      (omega (arith, sum_is (s +ℤ d) (b -ℤ d), sum_is s d, diff_is b d, sum_is s b)))

-- ---- normalising

counted-normal : (a : ℕ → Bool) (t : Term) → counted a (normal_term t) ≡ counted a t +ℤ rise t
unfolding normal_term rise
counted-normal a t = cases t.weight t.code
  where
    cases : (w : ℤ) (c : ℕ) → counted a (normal_by w c) ≡ cond (is_true a c) w (pos 0) +ℤ rise_by w
    cases (pos n) c = sym (+ℤ_idr (cond (is_true a c) (pos n) (pos 0)))
    cases (negsuc n) c = rw (true-opposite a c) (by (is_true a c))
      where
        by : (b : Bool) → cond (not b) (pos (suc n)) (pos 0) ≡ cond b (negsuc n) (pos 0) +ℤ pos (suc n)
        by true = sym (+ℤ_invl (pos (suc n)))
        by false = sym (+ℤ_idl (pos (suc n)))

pub normal-holds : (a : ℕ → Bool) (r : Row) → holds a (normal r) ≡ holds a r
unfolding normal
normal-holds a r = holds-shifted a normal_term rise (counted-normal a) r

pub normal-value : (a : ℕ → Bool) (r : Row) → r.kind ≡ objective → value_of a (normal r) ≡ value_of a r
unfolding normal
normal-value a r k = value_shifted a normal_term rise (counted-normal a) r k

-- ---- the printed row

counted-plain : (a : ℕ → Bool) (t : Term) → counted a (plain_term t) ≡ counted a t +ℤ fall t
unfolding plain_term fall
counted-plain a t = rw (true-plain a t.code) (by (negated t.code) (is_true a t.code))
  where
    by : (n b : Bool)
        → cond (cond n (not b) b) (cond n (neg_ℤ t.weight) t.weight) (pos 0)
        ≡ cond b t.weight (pos 0) +ℤ cond n (neg_ℤ t.weight) (pos 0)
    by true true = sym (+ℤ_invr t.weight)
    by true false = sym (+ℤ_idl (neg_ℤ t.weight))
    by false true = sym (+ℤ_idr t.weight)
    by false false = refl

pub unnegated-holds : (a : ℕ → Bool) (r : Row) → holds a (unnegated r) ≡ holds a r
unfolding unnegated
unnegated-holds a r = holds-shifted a plain_term fall (counted-plain a) r

pub unnegated-value : (a : ℕ → Bool) (r : Row) → r.kind ≡ objective → value_of a (unnegated r) ≡ value_of a r
unfolding unnegated
unnegated-value a r k = value_shifted a plain_term fall (counted-plain a) r k

swap-sums : (p q x y w d : ℤ) → x +ℤ y ≡ d → p +ℤ q ≡ w → (p +ℤ x) +ℤ (q +ℤ y) ≡ w +ℤ d
swap-sums p q x y w d e f =
    same ((p +ℤ x) +ℤ (q +ℤ y)) (w +ℤ d)
    (omega (
      arith,
      sum_is (p +ℤ x) (q +ℤ y),
      sum_is p x,
      sum_is q y,
      sum_is w d,
      sum_is x y,
      sum_is p q,
      ap up e,
      ap dn e,
      ap up f,
      ap dn f,
    ))

sum-flipped : (a : ℕ → Bool) (ts : List Term) → sum_of a (map flip_term ts) +ℤ sum_of a ts ≡ total_by weight_of ts
unfolding sum_of flip_term total_by
sum-flipped a [] = refl
sum-flipped a (t ∷ ts) = rw (true-opposite a t.code) (by (is_true a t.code) (sum-flipped a ts))
  where
    by : (b : Bool) → sum_of a (map flip_term ts) +ℤ sum_of a ts ≡ total_by weight_of ts
        → (cond (not b) t.weight (pos 0) +ℤ sum_of a (map flip_term ts)) +ℤ (cond b t.weight (pos 0) +ℤ sum_of a ts)
        ≡ t.weight +ℤ total_by weight_of ts
    by true e = swap-sums (pos 0) t.weight (sum_of a (map flip_term ts)) (sum_of a ts) t.weight _ e (+ℤ_idl t.weight)
    by false e = swap-sums t.weight (pos 0) (sum_of a (map flip_term ts)) (sum_of a ts) t.weight _ e (+ℤ_idr t.weight)

pub flipped-holds : (a : ℕ → Bool) (r : Row) → holds a (flipped r) ≡ holds a r
unfolding holds flipped
flipped-holds a r = cases r.kind
  where
    cases : (k : Kind) → holds a (flipped_by k r.bound r.terms) ≡ holds_by k (sum_of a r.terms) r.bound
    cases at_least = refl
    cases at_most =
        let s = sum_of a r.terms in
        let n = sum_of a (map flip_term r.terms) in
        let w = total_by weight_of r.terms in
        le_same (w -ℤ r.bound) n s r.bound
        (omega (arith, diff_is w r.bound, sum_is n s, ap up (sum-flipped a r.terms), ap dn (sum-flipped a r.terms)))
    cases equal = refl
    cases objective = refl

pub flipped-value : (a : ℕ → Bool) (r : Row) → r.kind ≡ objective → value_of a (flipped r) ≡ value_of a r
unfolding flipped value_of
flipped-value a r k = cases r.kind k
  where
    cases : (k : Kind) → k ≡ objective → value_of a (flipped_by k r.bound r.terms) ≡ value_of a r
    cases at_least e = refl
    cases at_most e = never cc
    cases equal e = refl
    cases objective e = refl

flipped-kind : (r : Row) → r.kind ≡ objective → (flipped r).kind ≡ objective
unfolding flipped
flipped-kind r k = rw k

-- ---- the two laws
pub printed-holds : (m : Bool) (a : ℕ → Bool) (r : Row) → holds a (printed m r) ≡ holds a r
unfolding printed
printed-holds true a r = unnegated-holds a (flipped r) ∙ flipped-holds a r
printed-holds false a r = flipped-holds a r

pub printed-value : (m : Bool) (a : ℕ → Bool) (r : Row) → r.kind ≡ objective → value_of a (printed m r) ≡ value_of a r
unfolding printed
printed-value true a r k = unnegated-value a (flipped r) (flipped-kind r k) ∙ flipped-value a r k
printed-value false a r k = flipped-value a r k
