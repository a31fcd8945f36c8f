-- `evaluate_row` has one possible answer for each input: two that its contract allows are equal. It changes nothing
-- that it is lent.
use mathlib.Core.Path.{◌≡◌, sym, ◌∙◌}
use Rattle.verdicts.proofs.OneAnswer.{said-evaluated}
use Rattle.rows.proofs.evaluate_row.Reads as evaluate-row

pub evaluate-row-one : (κs : _) (a : _) (r r' : _) (s s' : _) → evaluate-row.Post κs a r s → evaluate-row.Post κs a r' s' → r ≡ r'
evaluate-row-one κs a r r' s s' p q = said-evaluated r r' (p ∙ sym q)
