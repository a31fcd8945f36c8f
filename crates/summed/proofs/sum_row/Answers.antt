-- `summed::sum_row` meets its contract: the terms lie in their columns, and their parts and the words that are looked
-- at are handed on (proofs/Orders.antt). Assumes nothing.
use Rattle.std.proofs.Common.{arith, sym, ap, ◌∙◌, ◌+◌, leb, option_copied}
use Rattle.summed.proofs.Orders.{row-summed}
use Rattle.summed.proofs.sum_row.Goals as goal

pub returns : goal.returns
returns c =
    let a = c.args in
    let e = a.entry in
    row-summed e.first e.count _ a.t.weights.now a.t.literals.now (option_copied a.known) a.words.now _ _ (omega arith) c.min.ensures
    (ap (leb (e.first + e.count)) (sym c.term_room.ensures) ∙ sym c.in_column.ensures ∙ c.if-not-in_column.false) c.sum_terms.ensures
