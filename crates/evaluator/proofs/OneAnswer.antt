-- `evaluate`, `evaluate_known` and `judge` have one possible answer for each input: two that a contract allows are
-- equal. They change nothing that they are lent.
use mathlib.Core.Path.{◌≡◌, sym, ◌∙◌}
use Rattle.verdicts.proofs.OneAnswer.{said-evaluated}
use Rattle.evaluator.proofs.evaluate.Reads as evaluate
use Rattle.evaluator.proofs.evaluate_known.Reads as evaluate-known
use Rattle.evaluator.proofs.judging.judge.Reads as judge

pub evaluate-one : (κs : _) (a : _) (r r' : _) (s s' : _) → evaluate.Post κs a r s → evaluate.Post κs a r' s' → r ≡ r'
evaluate-one κs a r r' s s' p q = said-evaluated r r' (p ∙ sym q)

pub evaluate-known-one : (κs : _) (a : _) (r r' : _) (s s' : _) → evaluate-known.Post κs a r s → evaluate-known.Post κs a r' s' → r ≡ r'
evaluate-known-one κs a r r' s s' p q = said-evaluated r r' (p ∙ sym q)

pub judge-one : (κs : _) (a : _) (r r' : _) (s s' : _) → judge.Post κs a r s → judge.Post κs a r' s' → r ≡ r'
judge-one κs a r r' s s' p q = said-evaluated r r' (p ∙ sym q)
