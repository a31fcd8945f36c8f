-- `sum_row` has one possible answer for each input: two that its contract allows are equal. It changes nothing that it
-- is lent.
use Rattle.std.proofs.Common.{◌≡◌, ℕ, ℤ, sym, ap, ◌∙◌, Result, Ok, Err}
use Rattle.definitions.specs.declared.Fault.{Fault}
use Rattle.definitions.specs.Refusal.{fault}
use Rattle.summed.specs.Sums.{said_summed}
use Rattle.summed.proofs.sum_row.Reads as sum_row

-- an answer is known by what it says
pub said-summed : (r r' : Result ℤ Fault) → said_summed r ≡ said_summed r' → r ≡ r'
said-summed (Err e) (Err f) q = let n : e.number ≡ f.number = cc in ap (λ (k : ℕ). Err (fault k)) n
said-summed (Err e) (Ok z) q = cc
said-summed (Ok z) (Err e) q = cc
said-summed (Ok y) (Ok z) q = cc

pub sum-row-one : (κs : _) (a : _) (r r' : _) (s s' : _) → sum_row.Post κs a r s → sum_row.Post κs a r' s' → r ≡ r'
sum-row-one κs a r r' s s' p q = said-summed r r' (p ∙ sym q)
