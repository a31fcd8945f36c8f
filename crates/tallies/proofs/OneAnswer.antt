-- `count_steps` has one possible answer for each input: two that its contract allows are equal. It changes nothing.
use mathlib.Core.Path.{◌≡◌, sym, ◌∙◌}
use Rattle.definitions.proofs.KnownAnswers.{counted-known}
use Rattle.tallies.proofs.count_steps.Reads as count-steps

pub count-steps-one : (κs : _) (a : _) (r r' : _) (s s' : _) → count-steps.Post κs a r s → count-steps.Post κs a r' s' → r ≡ r'
count-steps-one κs a r r' s s' p q = counted-known r r' (p ∙ sym q)
