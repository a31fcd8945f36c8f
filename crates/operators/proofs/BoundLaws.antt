-- Laws of bounds: a number in 64 bits is one, and what was compared where a bound or 8 is given.
use mathlib.Core.Path.{◌≡◌, refl}
use mathlib.Core.Logic.{◌⊎◌, inl, inr}
use mathlib.Core.Bool.{Bool, true, false}
use lib.IntN.{ℤ}
use Rattle.std.specs.Prelude.{Option, Some, None, SomeIff}
use Rattle.operators.specs.Said.{said_bound}
use mir.Syntax.{w64}
use mir.Val.{SFits}
use Rattle.definitions.specs.Limits.{in_i64}
use Rattle.definitions.specs.Refusal.{refuse, accept}
use Rattle.definitions.specs.Text.{bound_of}
use Rattle.definitions.specs.declared.OpbOperator.{OpbOperator}
use Rattle.definitions.specs.declared.OpbOperator.TheVariants.{LE, GE, EQ}
use Rattle.definitions.proofs.Truths.{never}
use Rattle.definitions.proofs.Whole.{in-true, true-in}
use Rattle.operators.specs.Bounds.{compared}

pub in-compared : (z : ℤ) → SFits w64 z → accept z ≡ compared z
unfolding compared
in-compared z f = rw (in-true z f)

pub same-compared : (p : OpbOperator) (z : ℤ) → (p ≡ LE) ⊎ ((p ≡ GE) ⊎ (p ≡ EQ)) → SFits w64 z → accept z ≡ compared (bound_of p z)
same-compared p z (inl e) f = rw e (in-compared z f)
same-compared p z (inr (inl e)) f = rw e (in-compared z f)
same-compared p z (inr (inr e)) f = rw e (in-compared z f)

-- as the code computes it
pub compared-checked : (r : Option ℤ) (z : ℤ) → SomeIff r (SFits w64 z) z → said_bound r ≡ compared z
unfolding compared
compared-checked (Some x) z (f, e) = rw e (in-compared z f)
compared-checked None z n = by (in_i64 z) refl
  where
    by : (t : Bool) → in_i64 z ≡ t → refuse 8 ≡ compared z
    by true q = absurd (n (true-in z q))
    by false q = rw q

-- what was compared: the number itself where it is in 64 bits
pub compared-accept : (z b : ℤ) → accept b ≡ compared z → (in_i64 z ≡ true) × (b ≡ z)
unfolding compared
compared-accept z b e = by (in_i64 z) refl
  where
    by : (t : Bool) → in_i64 z ≡ t → (in_i64 z ≡ true) × (b ≡ z)
    by true q = let a : accept b ≡ accept z = rw q at e in (q, cc)
    by false q = let a : accept b ≡ refuse 8 = rw q at e in never (cc)

pub compared-refuse : (z : ℤ) → refuse 8 ≡ compared z → in_i64 z ≡ false
unfolding compared
compared-refuse z e = by (in_i64 z) refl
  where
    by : (t : Bool) → in_i64 z ≡ t → in_i64 z ≡ false
    by true q = let a : refuse 8 ≡ accept z = rw q at e in never (cc)
    by false q = q
