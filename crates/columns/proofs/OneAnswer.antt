-- Each public function has one possible answer for each input: two that its contract allows are equal. None changes
-- what it is lent.
use mathlib.Core.Path.{◌≡◌, sym, ◌∙◌}
use Rattle.columns.proofs.lesser.Reads as lesser
use Rattle.columns.proofs.row_room.Reads as row_room
use Rattle.columns.proofs.term_room.Reads as term-room
use Rattle.columns.proofs.in_column.Reads as in-column
use Rattle.columns.proofs.terms_of.Reads as terms-of
use Rattle.columns.proofs.first_of.Reads as first_of

pub lesser-one : (κs : _) (a : _) (r r' : _) (s s' : _) → lesser.Post κs a r s → lesser.Post κs a r' s' → r ≡ r'
lesser-one κs a r r' s s' p q = p ∙ sym q

pub row-room-one : (κs : _) (a : _) (r r' : _) (s s' : _) → row_room.Post κs a r s → row_room.Post κs a r' s' → r ≡ r'
row-room-one κs a r r' s s' p q = p ∙ sym q

pub term-room-one : (κs : _) (a : _) (r r' : _) (s s' : _) → term-room.Post κs a r s → term-room.Post κs a r' s' → r ≡ r'
term-room-one κs a r r' s s' p q = p ∙ sym q

pub in-column-one : (κs : _) (a : _) (r r' : _) (s s' : _) → in-column.Post κs a r s → in-column.Post κs a r' s' → r ≡ r'
in-column-one κs a r r' s s' p q = p ∙ sym q

pub terms-of-one : (κs : _) (a : _) (r r' : _) (s s' : _) → terms-of.Post κs a r s → terms-of.Post κs a r' s' → r ≡ r'
terms-of-one κs a r r' s s' p q = p ∙ sym q

pub first-of-one : (κs : _) (a : _) (r r' : _) (s s' : _) → first_of.Post κs a r s → first_of.Post κs a r' s' → r ≡ r'
first-of-one κs a r r' s s' p q = p ∙ sym q
