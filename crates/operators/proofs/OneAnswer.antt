-- Each public function has one possible answer for each input: two that its contract allows are equal. None changes
-- what it is lent.
use mathlib.Core.Path.{◌≡◌, refl, sym, ◌∙◌}
use Rattle.std.specs.Prelude.{ℕ, ℤ, Option, Some, None}
use Rattle.definitions.specs.declared.OpbOperator.{OpbOperator}
use Rattle.operators.specs.Said.{said_operator, said_bound}
use Rattle.operators.proofs.operator.read_operator.Reads as read-operator
use Rattle.operators.proofs.bound.kind_of.Reads as kind-of
use Rattle.operators.proofs.bound.bound_of.Reads as bound_of

-- ---- an answer is known by what it says

pub said-operator : (r r' : Option (OpbOperator × ℕ)) → said_operator r ≡ said_operator r' → r ≡ r'
said-operator (Some (p, n)) (Some (q, m)) e = cc
said-operator (Some (p, n)) None e = cc
said-operator None (Some (q, m)) e = cc
said-operator None None e = refl

pub said-bound : (r r' : Option ℤ) → said_bound r ≡ said_bound r' → r ≡ r'
said-bound (Some z) (Some y) e = cc
said-bound (Some z) None e = cc
said-bound None (Some y) e = cc
said-bound None None e = refl

-- ---- the functions

pub read-operator-one : (κs : _) (a : _) (r r' : _) (s s' : _) → read-operator.Post κs a r s → read-operator.Post κs a r' s' → r ≡ r'
read-operator-one κs a r r' s s' p q = said-operator r r' (p ∙ sym q)

pub kind-of-one : (κs : _) (a : _) (r r' : _) (s s' : _) → kind-of.Post κs a r s → kind-of.Post κs a r' s' → r ≡ r'
kind-of-one κs a r r' s s' p q = p ∙ sym q

pub bound-of-one : (κs : _) (a : _) (r r' : _) (s s' : _) → bound_of.Post κs a r s → bound_of.Post κs a r' s' → r ≡ r'
bound-of-one κs a r r' s s' p q = said-bound r r' (p ∙ sym q)
