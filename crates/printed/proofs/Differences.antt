-- The bound that is printed, in 64 signed bits or beyond.
use mathlib.Core.Path.{◌≡◌, refl, ap}
use mathlib.Core.Bool.{Bool, true, false, cond}
use Prim.Native.Nat.{ℕ, ◌≤◌, ◌<◌}
use native.Mathlib.Omega.{arith}
use native.Mathlib.Decide.{dec_le}
use borrow.Author.Tests.{le-leb, lt-leb}
use lib.Dec.{leb}
use lib.IntN.{ℤ, pos}
use mir.Syntax.{w64}
use mir.Val.{SFits}
use Rattle.std.specs.Prelude.{Option, Some, None, Result, Ok, Err, SomeIff, OkIff}
use Rattle.std.specs.Result.{result_ok}
use Rattle.definitions.specs.Limits.{weight_limit, in_i64}
use Rattle.definitions.specs.Refusal.{Checked, refuse, accept}
use Rattle.definitions.specs.Table.{and_then}
use Rattle.definitions.specs.declared.Kind.{Kind}
use Rattle.definitions.proofs.Whole.{in-true, true-in}
use Rattle.definitions.proofs.Truths.{never}
use Rattle.printed.specs.Bounds.{within, said_bound, bound_before, bound_after, fallen_bound, printed_bound}

-- ---- within 64 bits, and beyond

pub within-fits : (z : ℤ) → SFits w64 z → accept z ≡ within z
unfolding within
within-fits z f = rw (in-true z f)

pub within-taken : (z x : ℤ) → accept x ≡ within z → SFits w64 x
unfolding within
within-taken z x e = by (in_i64 z) refl
  where
    by : (b : Bool) → in_i64 z ≡ b → SFits w64 x
    by true t = let h : accept x ≡ accept z = rw t at e in let q : x ≡ z = cc in rw q (true-in z t)
    by false t = let h : accept x ≡ refuse 8 = rw t at e in never cc

-- what a checked sum or difference answers
pub said-within : (r : Option ℤ) (z : ℤ) → SomeIff r (SFits w64 z) z → said_bound r ≡ within z
unfolding within
said-within (Some x) z h = rw (h.1, in-true z h.0)
said-within None z h = by (in_i64 z) refl
  where
    by : (b : Bool) → in_i64 z ≡ b → refuse 8 ≡ cond (in_i64 z) (accept z) (refuse 8)
    by true t = absurd (h (true-in z t))
    by false t = rw t

-- ---- a size as a signed number

pub record Taken (n : ℕ) (x : ℤ) : Type 0 where
  pub small : n ≤ weight_limit
  pub fits : SFits w64 (pos n)
  pub is : x ≡ pos n

pub size-taken : {E : Type 0} (r : Result ℤ E) (n : ℕ) (x : ℤ) → OkIff r (SFits w64 (pos n)) (pos n) → Some x ≡ result_ok r → Taken n x
size-taken (Ok y) n x h e = record { small = omega (arith, h.0.sfits); fits = h.0; is = let p : y ≡ pos n = h.1 in cc }
size-taken (Err d) n x h e = never cc

pub size-beyond : {E : Type 0} (r : Result ℤ E) (n : ℕ) → OkIff r (SFits w64 (pos n)) (pos n) → None ≡ result_ok r → weight_limit < n
size-beyond (Ok y) n h e = never cc
size-beyond (Err d) n h e = cases (dec_le n weight_limit)
  where
    cases : Dec (n ≤ weight_limit) → weight_limit < n
    cases (yes k) = absurd (h (record { sfits = omega arith }))
    cases (no k) = omega arith

-- ---- the bound before and after the fall

module _ (k : Kind) (b : ℤ) (fall : ℕ) where
  pub fallen-over : weight_limit < fall → refuse 8 ≡ fallen_bound k fall b
  fallen-over h = rw (lt-leb fall weight_limit h)

  pub fallen-within : {z : ℤ} → fall ≤ weight_limit → z ≡ bound_after k b fall → within z ≡ fallen_bound k fall b
  fallen-within h e = rw (le-leb fall weight_limit h, e)

pub fallen-is : (k : Kind) (fall : ℕ) → fall ≤ weight_limit → fallen_bound k fall ≡ (λ z. within (bound_after k z fall))
fallen-is k fall h = ap {B = ℤ → Checked ℤ} (λ (t : Bool) (z : ℤ). cond t (within (bound_after k z fall)) (refuse 8))
    (le-leb fall weight_limit h)

module _ (k : Kind) (b : ℤ) (total fall : ℕ) where
  pub printed-over : weight_limit < total → refuse 8 ≡ printed_bound k b total fall
  unfolding printed_bound
  printed-over h = rw (lt-leb total weight_limit h)

  pub printed-then : (r : Checked ℤ) → total ≤ weight_limit → r ≡ within (bound_before k b total)
      → and_then r (fallen_bound k fall) ≡ printed_bound k b total fall
  unfolding printed_bound
  printed-then r h e = rw (le-leb total weight_limit h, e)

pub printed-fits : (k : Kind) (b : ℤ) (total fall : ℕ) (z : ℤ) → accept z ≡ printed_bound k b total fall → SFits w64 z
unfolding printed_bound within
printed-fits k b total fall z = by (leb total weight_limit) (in_i64 (bound_before k b total)) (leb fall weight_limit)
  where
    by : (p q r : Bool)
        → accept z
        ≡ cond p
        (and_then (cond q (accept (bound_before k b total)) (refuse 8)) (λ (x : ℤ). cond r (within (bound_after k x fall)) (refuse 8)))
        (refuse 8)
        → SFits w64 z
    by true true true e = within-taken _ _ e
    by true true false e = never cc
    by true false r e = never cc
    by false q r e = never cc
