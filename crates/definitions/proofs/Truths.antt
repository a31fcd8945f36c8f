-- What follows from tests? Two that are passed are each passed, none is both passed and not, and what a test picks has
-- what both sides have.
use Prim.Native.Nat.{ℕ}
use mathlib.Core.Path.{◌≡◌, refl, sym, ◌∙◌}
use mathlib.Core.Bool.{Bool, true, false, cond, ◌&&◌, ◌||◌, false≢true}
use mathlib.Core.Logic.{◌⊎◌, inl, inr}
use native.Mathlib.Omega.{arith}

pub one_truth : (b : Bool) → b ≡ true → b ≡ false → ⊥
one_truth b p q = false≢true (sym q ∙ p)

pub both : (d e : Bool) → d && e ≡ true → (d ≡ true) × (e ≡ true)
both true e q = (refl, q)
both false e q = absurd (false≢true q)

pub either : (d e : Bool) → d || e ≡ true → (d ≡ true) ⊎ (e ≡ true)
either true e q = inl refl
either false e q = inr q

-- two constructors that differ: whoever has equated them has this
pub never {ℓ} : {X : Type ℓ} → ◌≡◌ {A = ℕ} 0 1 → X
never z = absurd (omega arith)

-- ---- what a test picks

pub cond_same : {A : Type 0} (t : Bool) (x : A) → cond t x x ≡ x
cond_same true x = refl
cond_same false x = refl

pub cond-pushed : {A B : Type 0} (f : A → B) (t : Bool) (x y : A) → f (cond t x y) ≡ cond t (f x) (f y)
cond-pushed f true x y = refl
cond-pushed f false x y = refl

pub cond-holds : {A : Type 0} (t : Bool) (x y : A) (P : A → Type 0) → P x → P y → P (cond t x y)
cond-holds true x y P p q = p
cond-holds false x y P p q = q
