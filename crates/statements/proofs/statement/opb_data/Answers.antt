-- `opb_data` meets its contract: it is `walk_statement` over columns with no room.
use Rattle.statements.proofs.statement.opb_data.Goals as goal

pub returns : goal.returns
returns c = c.walk_statement.ensures.answer
