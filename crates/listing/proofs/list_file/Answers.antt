-- `list_file` meets its contract: lines that are longer than the output are refused before anything is changed; all
-- others are listed (proofs/Files.antt).
use mathlib.Core.Path.{sym}
use native.Mathlib.Omega.{arith}
use Rattle.listing.proofs.Files.{lists-full, lists-all}
use Rattle.listing.proofs.list_file.Goals as goal

pub returns-then-length-out : goal.returns-then-length-out
returns-then-length-out c =
    lists-full _ _ _ _ _
    (c.listing_length-length.ensures _ (sym c.row_room-row_room.ensures) (sym c.term_room-term_room.ensures))
    c.if-length-out.true

pub returns : goal.returns
returns c =
    lists-all _ _ _ _ _
    (c.listing_length-length.ensures _ (sym c.row_room-row_room.ensures) (sym c.term_room-term_room.ensures))
    c.if-length-out.false (omega arith) _ _ c.list_read.ensures
