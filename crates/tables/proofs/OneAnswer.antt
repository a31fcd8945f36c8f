-- Each public function has one possible answer for each input: two that its contract allows are equal. None changes
-- what it is lent.
use mathlib.Core.Path.{◌≡◌, sym, ◌∙◌}
use Rattle.tables.proofs.Table.row_room.Reads as row_room
use Rattle.tables.proofs.Table.term_room.Reads as term-room
use Rattle.tables.proofs.Table.entry.Reads as entry

pub table-row-room-one : (κs : _) (a : _) (r r' : _) (s s' : _) → row_room.Post κs a r s → row_room.Post κs a r' s' → r ≡ r'
table-row-room-one κs a r r' s s' p q = p ∙ sym q

pub table-term-room-one : (κs : _) (a : _) (r r' : _) (s s' : _) → term-room.Post κs a r s → term-room.Post κs a r' s' → r ≡ r'
table-term-room-one κs a r r' s s' p q = p ∙ sym q

pub table-entry-one : (κs : _) (a : _) (r r' : _) (s s' : _) → entry.Post κs a r s → entry.Post κs a r' s' → r ≡ r'
table-entry-one κs a r r' s s' p q = p ∙ sym q
