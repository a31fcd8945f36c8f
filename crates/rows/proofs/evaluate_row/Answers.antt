-- `rows::evaluate_row` meets its contract: a row that is there is its entry (proofs/RowAnswers.antt). Assumes nothing.
use Rattle.std.proofs.Common.{sym, ◌∙◌}
use Rattle.tables.specs.Lent.{table_of}
use Rattle.rows.proofs.RowAnswers.{row-none, row-there}
use Rattle.rows.proofs.evaluate_row.Goals as goal

pub returns-in_default : goal.returns-in_default
returns-in_default c = rw (c.at_row.ensures, row-none (table_of c.args.t) c.args.row _ _ c.args.ones (sym c.in_default.ensures))

pub returns : goal.returns
returns c =
    c.evaluate_entry.ensures ∙ row-there (table_of c.args.t) c.args.row _ _ c.args.ones c.in-Some.entry (sym c.in-Some.ensures)
