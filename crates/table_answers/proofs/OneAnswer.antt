-- `table_answer` has one possible answer for each input: two that its contract allows are equal.
use mathlib.Core.Path.{◌≡◌, sym, ◌∙◌}
use Rattle.table_answers.proofs.table_answer.Reads as table-answer

pub table-answer-one : (κs : _) (a : _) (r r' : _) (s s' : _) → table-answer.Post κs a r s → table-answer.Post κs a r' s' → r ≡ r'
table-answer-one κs a r r' s s' p q = p ∙ sym q
