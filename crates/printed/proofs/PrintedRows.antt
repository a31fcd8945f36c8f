-- The row that is printed, by what the walks count: its bound, its terms, its text.
use mathlib.Core.Path.{◌≡◌, refl, sym, ap, ap₂, ◌∙◌}
use mathlib.Core.Bool.{Bool, true, false, cond, ◌&&◌}
use mathlib.Core.List.{List, [], ◌∷◌, map, map-map, map-id}
use Prim.Native.Nat.{ℕ, ◌+◌, ◌≤◌, ◌<◌}
use native.Mathlib.Omega.{arith}
use native.Mathlib.Decide.{dec_le}
use borrow.Author.Tests.{le-leb, lt-leb}
use lib.Dec.{leb}
use lib.IntN.{ℤ, pos, negsuc, neg_ℤ, nat_abs, ◌+ℤ◌, ◌-ℤ◌, +ℤ_idr}
use lib.Signed.{non_neg}
use Rattle.definitions.specs.Limits.{weight_limit, in_i64}
use Rattle.definitions.specs.Refusal.{refuse, accept}
use Rattle.definitions.specs.Literal.{negated}
use Rattle.definitions.specs.Row.{Term, weight_of, row_of, sizes}
use Rattle.definitions.specs.Table.{and_then}
use Rattle.definitions.specs.Normal.{moved, total_by}
use Rattle.definitions.specs.Write.{flip_term, flipped, plain_term, fall, unnegated, printed, weighs, bounded}
use Rattle.definitions.specs.declared.Mode.{Mode}
use Rattle.definitions.specs.declared.Kind.{Kind}
use Rattle.definitions.specs.declared.Kind.TheVariants.{AtLeast as at_least, AtMost as at_most, Equal as equal, Objective as objective}
use Rattle.definitions.specs.Back.{is_goal}
use Rattle.definitions.proofs.MeansBack.{shown_kind}
use Rattle.definitions.proofs.Whole.{up_pos, dn-pos, up_neg, dn-neg, sum_is, diff_is, same}
use Rattle.definitions.proofs.Truths.{both}
use Rattle.term_checks.specs.Sizes.{capped}
use Rattle.shown.specs.declared.terms.Style.{Style}
use Rattle.printed.specs.Kinds.{is_at_most}
use Rattle.shown.specs.Terms.{flipped_code, flipped_term, plained_term, shown_term, fallen}
use Rattle.printed.specs.Bounds.{within, bound_before, bound_after, printed_bound}
use Rattle.shown.specs.Sums.{no_sums, summed}
use Rattle.printed.proofs.Differences.{fallen-is}
use Rattle.shown.proofs.WeightSums.{fall_size, falls, falls-most, summed-total, summed-fall}

-- ---- totals of weights that are not negative

non_neg-is : (z : ℤ) → non_neg z ≡ true → z ≡ pos (nat_abs z)
non_neg-is (pos n) e = refl
non_neg-is (negsuc n) e = let z : ◌≡◌ {A = ℕ} 0 1 = cc in absurd (omega arith)

pub weighs-total : (ts : List Term) → weighs ts ≡ true → total_by weight_of ts ≡ pos (sizes ts)
unfolding total_by weighs sizes
weighs-total [] e = refl
weighs-total (t ∷ ts) e =
    ap₂ (λ (x y : ℤ). x +ℤ y) (non_neg-is t.weight (both (non_neg t.weight) (weighs ts) e).0)
    (weighs-total ts (both (non_neg t.weight) (weighs ts) e).1)

-- a style in no-negated mode
module _ (s : Style) (p : s.plain ≡ true) where
  flipped-code : (t : Term) → (flipped_term s.flip t).code ≡ flipped_code s.flip t.code
  flipped-code t = by s.flip
    where
      by : (b : Bool) → (flipped_term b t).code ≡ flipped_code b t.code
      by true = unfold flip_term in refl
      by false = refl

  flipped-weight : (t : Term) → (flipped_term s.flip t).weight ≡ t.weight
  flipped-weight t = by s.flip
    where
      by : (b : Bool) → (flipped_term b t).weight ≡ t.weight
      by true = unfold flip_term in refl
      by false = refl

  fall-one : (t : Term) → non_neg t.weight ≡ true → fall (flipped_term s.flip t) ≡ neg_ℤ (pos (fall_size s t))
  unfolding fall fall_size fallen
  fall-one t e = rw (p, flipped-code t, flipped-weight t) (by (negated (flipped_code s.flip t.code)))
    where
      by : (b : Bool) → cond b (neg_ℤ t.weight) (pos 0) ≡ neg_ℤ (pos (cond b (nat_abs t.weight) 0))
      by true = ap neg_ℤ (non_neg-is t.weight e)
      by false = refl

  fall-total : (ts : List Term) → weighs ts ≡ true → total_by fall (map (flipped_term s.flip) ts) ≡ neg_ℤ (pos (falls s ts))
  unfolding total_by weighs falls
  fall-total [] e = refl
  fall-total (t ∷ ts) e =
      ap₂ (λ (x y : ℤ). x +ℤ y) (fall-one t (both (non_neg t.weight) (weighs ts) e).0)
      (fall-total ts (both (non_neg t.weight) (weighs ts) e).1)
      ∙ negative-sum (fall_size s t) (falls s ts)
    where
      negative-sum : (n m : ℕ) → neg_ℤ (pos n) +ℤ neg_ℤ (pos m) ≡ neg_ℤ (pos (n + m))
      negative-sum n m =
          same (neg_ℤ (pos n) +ℤ neg_ℤ (pos m)) (neg_ℤ (pos (n + m)))
          (omega (
            arith,
            sum_is (neg_ℤ (pos n)) (neg_ℤ (pos m)),
            up_neg (pos n),
            dn-neg (pos n),
            up_neg (pos m),
            dn-neg (pos m),
            up_neg (pos (n + m)),
            dn-neg (pos (n + m)),
            up_pos n,
            dn-pos n,
            up_pos m,
            dn-pos m,
            up_pos (n + m),
            dn-pos (n + m),
          ))

-- ---- the row before the fall

module _ (b : ℤ) (ts : List Term) where
  flipped-kind : (k : Kind) → (flipped (row_of k b ts)).kind ≡ shown_kind k
  unfolding flipped
  flipped-kind at_least = refl
  flipped-kind at_most = refl
  flipped-kind equal = refl
  flipped-kind objective = refl

  flipped-terms : (k : Kind) → (flipped (row_of k b ts)).terms ≡ map (flipped_term (is_at_most k)) ts
  unfolding flipped
  flipped-terms at_least = sym (map-id ts)
  flipped-terms at_most = refl
  flipped-terms equal = sym (map-id ts)
  flipped-terms objective = sym (map-id ts)

  pub flipped-bound : (k : Kind) → weighs ts ≡ true → (flipped (row_of k b ts)).bound ≡ bound_before k b (sizes ts)
  unfolding flipped
  flipped-bound at_least e = refl
  flipped-bound at_most e = ap (λ (z : ℤ). z -ℤ b) (weighs-total ts e)
  flipped-bound equal e = refl
  flipped-bound objective e = refl

-- ---- the printed row

after_none : (k : Kind) (b : ℤ) → b ≡ bound_after k b 0
after_none k b = by (is_goal k)
  where
    by : (o : Bool) → b ≡ cond o (b +ℤ pos 0) (b -ℤ pos 0)
    by true = sym (+ℤ_idr b)
    by false = sym (+ℤ_idr b)

after-moved : (k : Kind) (b : ℤ) (n : ℕ) → moved (shown_kind k) b (neg_ℤ (pos n)) ≡ bound_after k b n
after-moved at_least b n = refl
after-moved at_most b n = refl
after-moved equal b n = refl
after-moved objective b n =
    same (b -ℤ neg_ℤ (pos n)) (b +ℤ pos n)
    (omega (arith, diff_is b (neg_ℤ (pos n)), sum_is b (pos n), up_neg (pos n), dn-neg (pos n), up_pos n, dn-pos n))

module _ (k : Kind) (b : ℤ) (ts : List Term) (s : Style) (f : s.flip ≡ is_at_most k) where
  no-fall : s.plain ≡ false → (t : Term) → fall_size s t ≡ 0
  unfolding fall_size fallen
  no-fall p t = rw p

  no-falls : s.plain ≡ false → (us : List Term) → falls s us ≡ 0
  unfolding falls
  no-falls p [] = refl
  no-falls p (t ∷ us) = omega (arith, no-fall p t, no-falls p us)

  pub printed-terms : (printed s.plain (row_of k b ts)).terms ≡ map (shown_term s) ts
  unfolding printed unnegated shown_term
  printed-terms = rw f (by s.plain)
    where
      by : (p : Bool) → (cond p (unnegated (flipped (row_of k b ts))) (flipped (row_of k b ts))).terms
          ≡ map (λ t. plained_term p (flipped_term (is_at_most k) t)) ts
      by true = ap (map plain_term) (flipped-terms b ts k) ∙ map-map plain_term (flipped_term (is_at_most k)) ts
      by false = flipped-terms b ts k

  pub printed-bound : weighs ts ≡ true → (printed s.plain (row_of k b ts)).bound ≡ bound_after k (bound_before k b (sizes ts)) (falls s ts)
  printed-bound e = by s.plain refl
    where
      by : (p : Bool) → s.plain ≡ p → (printed p (row_of k b ts)).bound ≡ bound_after k (bound_before k b (sizes ts)) (falls s ts)
      by true p = unfold printed unnegated in rw (
        flipped-kind b ts k,
        flipped-bound b ts k e,
        flipped-terms b ts k,
        ← f,
        fall-total s p ts e,
      ) (after-moved k _ (falls s ts))
      by false p = unfold printed in flipped-bound b ts k e ∙ rw (no-falls p ts) (after_none k _)

-- ---- 8, by the two sums

then-within : (h : ℤ → ℤ) (x : ℤ) → and_then (within x) (λ z. within (h z)) ≡ cond (in_i64 x && in_i64 (h x)) (accept (h x)) (refuse 8)
unfolding within
then-within h x = by (in_i64 x)
  where
    by : (p : Bool) → and_then (cond p (accept x) (refuse 8)) (λ z. cond (in_i64 (h z)) (accept (h z)) (refuse 8))
        ≡ cond (p && in_i64 (h x)) (accept (h x)) (refuse 8)
    by true = refl
    by false = refl

module _ (k : Kind) (b : ℤ) (ts : List Term) (s : Style) (f : s.flip ≡ is_at_most k) (m : Mode) (p : m.plain ≡ s.plain)
    (e : weighs ts ≡ true) where
  pub bound-by-sums : printed_bound k b (summed s no_sums ts).total (summed s no_sums ts).fall
      ≡ cond (bounded m (row_of k b ts)) (accept (printed m.plain (row_of k b ts)).bound) (refuse 8)
  unfolding printed_bound bounded
  bound-by-sums = rw p (cases (dec_le (sizes ts) weight_limit))
    where
      total : (summed s no_sums ts).total ≡ capped (0 + sizes ts)
      total = summed-total s no_sums ts (omega arith)

      fallen-by : (summed s no_sums ts).fall ≡ capped (0 + falls s ts)
      fallen-by = summed-fall s no_sums ts (omega arith)

      cases : Dec (sizes ts ≤ weight_limit) → printed_bound k b (summed s no_sums ts).total (summed s no_sums ts).fall
          ≡ cond (leb (sizes ts) weight_limit && (in_i64 (flipped (row_of k b ts)).bound &&
          in_i64 (printed s.plain (row_of k b ts)).bound)) (accept (printed s.plain (row_of k b ts)).bound) (refuse 8)
      cases (yes h) =
          let t : (summed s no_sums ts).total ≡ sizes ts = omega (arith, total) in
          let u : (summed s no_sums ts).fall ≡ falls s ts = omega (arith, fallen-by, falls-most s ts) in
          let v : falls s ts ≤ weight_limit = omega (arith, falls-most s ts) in
          rw (t, u, flipped-bound b ts k e, printed-bound k b ts s f e, le-leb (sizes ts) weight_limit h)
          (ap (and_then (within (bound_before k b (sizes ts)))) (fallen-is k (falls s ts) v)
          ∙ then-within (λ z. bound_after k z (falls s ts)) (bound_before k b (sizes ts)))
      cases (no h) =
          let t : weight_limit < (summed s no_sums ts).total = omega (arith, total) in
          rw (lt-leb (sizes ts) weight_limit (omega arith), lt-leb (summed s no_sums ts).total weight_limit t)
