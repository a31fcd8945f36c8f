-- `list_read` meets its contract: the refusal, or the lines of the table that was read (proofs/Files.antt).
use Rattle.listing_read.proofs.Files.{refused-lists, read-lists}
use Rattle.listing_read.proofs.list_read.Goals as goal

pub returns-in-Err : goal.returns-in-Err
returns-in-Err c = refused-lists _ _ _ _ _ _ _ c.parse_opb_data.ensures _ c.in-Err.is _ c.list_refusal.ensures

pub returns-in-Ok : goal.returns-in-Ok
returns-in-Ok c = read-lists _ _ _ _ _ _ _ c.parse_opb_data.ensures _ c.in-Ok.is _ c.list_table.ensures
