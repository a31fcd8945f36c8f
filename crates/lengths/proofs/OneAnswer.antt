-- Each public function has one possible answer for each input: two that its contract allows are equal.
use mathlib.Core.Path.{◌≡◌, sym, ◌∙◌}
use Rattle.lengths.proofs.add_needed.Reads as add-needed
use Rattle.lengths.proofs.places_of.Reads as places_of
use Rattle.lengths.proofs.count_length.Reads as count-length
use Rattle.lengths.proofs.number_length.Reads as number-length

pub add-needed-one : (κs : _) (a : _) (r r' : _) (s s' : _) → add-needed.Post κs a r s → add-needed.Post κs a r' s' → r ≡ r'
add-needed-one κs a r r' s s' p q = p ∙ sym q

pub places-of-one : (κs : _) (a : _) (r r' : _) (s s' : _) → places_of.Post κs a r s → places_of.Post κs a r' s' → r ≡ r'
places-of-one κs a r r' s s' p q = p ∙ sym q

pub count-length-one : (κs : _) (a : _) (r r' : _) (s s' : _) → count-length.Post κs a r s → count-length.Post κs a r' s' → r ≡ r'
count-length-one κs a r r' s s' p q = p ∙ sym q

pub number-length-one : (κs : _) (a : _) (r r' : _) (s s' : _) → number-length.Post κs a r s → number-length.Post κs a r' s' → r ≡ r'
number-length-one κs a r r' s s' p q = p ∙ sym q
