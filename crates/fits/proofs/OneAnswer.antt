-- `sum_fits` has one possible answer for each input: two that its contract allows are equal.
use mathlib.Core.Path.{◌≡◌, sym, ◌∙◌}
use Rattle.fits.proofs.sum_fits.Reads as sum_fits

pub sum-fits-one : (κs : _) (a : _) (r r' : _) (s s' : _) → sum_fits.Post κs a r s → sum_fits.Post κs a r' s' → r ≡ r'
sum-fits-one κs a r r' s s' p q = p ∙ sym q
