-- Each public function has one possible answer for each input: two that its contract allows are equal.
use mathlib.Core.Path.{◌≡◌, sym, ◌∙◌}
use mathlib.Core.Bool.{Bool}
use lib.IntN.{ℤ}
use Prim.Native.Nat.{ℕ}
use Rattle.definitions.specs.Row.{Term}
use Rattle.shown.specs.declared.terms.Style.{Style}
use Rattle.shown.specs.declared.terms.Shown.{Shown}
use Rattle.shown.specs.Terms.{Shows}
use Rattle.shown.proofs.terms.show_term.Reads as show-term
use Rattle.shown.proofs.sums.with_weight.Reads as with-weight

shown-eq : {o o' w w' : ℤ} {t t' f f' : Bool} {v v' : ℕ} → o ≡ o' → w ≡ w' → t ≡ t' → v ≡ v' → f ≡ f'
    → ◌≡◌ {A = Shown} (record { own = o; weight = w; tilde = t; var = record { 0 = v }; falls = f })
    (record { own = o'; weight = w'; tilde = t'; var = record { 0 = v' }; falls = f' })
shown-eq a b c d e = cc

pub shows-one : {s : Style} {t : Term} (x y : Shown) → Shows s t x → Shows s t y → x ≡ y
shows-one x y p q =
    shown-eq (p.own ∙ sym q.own) (p.weight ∙ sym q.weight) (p.tilde ∙ sym q.tilde) (p.var ∙ sym q.var)
    (p.falls ∙ sym q.falls)

pub show-term-one : (κs : _) (a : _) (r r' : _) (s s' : _) → show-term.Post κs a r s → show-term.Post κs a r' s' → r ≡ r'
show-term-one κs a r r' s s' p q = shows-one r r' p q

pub with-weight-one : (κs : _) (a : _) (r r' : _) (s s' : _) → with-weight.Post κs a r s → with-weight.Post κs a r' s' → r ≡ r'
with-weight-one κs a r r' s s' p q = p ∙ sym q
