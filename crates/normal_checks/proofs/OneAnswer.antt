-- `measure_normal` has one possible answer for each input: two that its contract allows are equal. It changes nothing
-- that it is lent.
use mathlib.Core.Path.{◌≡◌, sym, ◌∙◌}
use Rattle.definitions.proofs.KnownAnswers.{counted-known}
use Rattle.normal_checks.proofs.measure_normal.Reads as measure-normal

pub measure-normal-one : (κs : _) (a : _) (r r' : _) (s s' : _) → measure-normal.Post κs a r s → measure-normal.Post κs a r' s' → r ≡ r'
measure-normal-one κs a r r' s s' p q = counted-known r r' (p ∙ sym q)
