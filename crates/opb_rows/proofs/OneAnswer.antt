-- Each call has one possible answer for each input: two that its contract allows are equal.
use mathlib.Core.Path.{◌≡◌, sym, ◌∙◌}
use Rattle.opb_rows.proofs.evaluating.opb_evaluate.Reads as opb-evaluate
use Rattle.opb_rows.proofs.evaluating.opb_evaluate_known.Reads as opb-evaluate-known
use Rattle.opb_rows.proofs.judging.opb_judge.Reads as opb-judge

pub opb-evaluate-one : (κs : _) (a : _) (r r' : _) (s s' : _) → opb-evaluate.Post κs a r s → opb-evaluate.Post κs a r' s' → r ≡ r'
opb-evaluate-one κs a r r' s s' p q = p ∙ sym q

pub opb-evaluate-known-one : (κs : _) (a : _) (r r' : _) (s s' : _) → opb-evaluate-known.Post κs a r s
    → opb-evaluate-known.Post κs a r' s' → r ≡ r'
opb-evaluate-known-one κs a r r' s s' p q = p ∙ sym q

pub opb-judge-one : (κs : _) (a : _) (r r' : _) (s s' : _) → opb-judge.Post κs a r s → opb-judge.Post κs a r' s' → r ≡ r'
opb-judge-one κs a r r' s s' p q = p ∙ sym q
