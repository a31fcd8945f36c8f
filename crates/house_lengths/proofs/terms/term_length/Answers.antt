-- `term_length` meets its contract: the variable has a file number, and the fields are counted with it, or it has none.
use mathlib.Core.Path.{ap, ◌∙◌}
use mir.Facts.{to_z-of_z}
use Rattle.definitions.specs.Literal.{file_number}
use Rattle.literals.proofs.Numbered.{number_is, no_number}
use Rattle.house_lengths.proofs.Fields.{length-numbered, length-unnumbered}
use Rattle.house_lengths.proofs.terms.term_length.Goals as goal

pub returns : goal.returns
returns c =
    let a = c.args in
    let g = number_is _ _ _ (c.of.ensures ∙ ap (file_number a.first) c.var.ensures) _ c.in_ok-n.was in
    length-numbered a.first a.w a.l.0 _ _ g.0 g.1 (rw (to_z-of_z c.ranges.w, c.is_neg.ensures) at c.fields_length.ensures)

pub returns-in_err-n : goal.returns-in_err-n
returns-in_err-n c =
    let a = c.args in
    rw c.from_residual.ensures
    (length-unnumbered a.first a.w a.l.0
    (no_number _ _ _ (c.of.ensures ∙ ap (file_number a.first) c.var.ensures) c.in_err-n.was))
