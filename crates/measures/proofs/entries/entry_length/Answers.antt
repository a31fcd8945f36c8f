-- `entry_length` meets its contract: a comment, a row, or what the writer does not know.
use mathlib.Core.Path.{sym, ap, ◌∙◌}
use borrow.Author.Rules.{rules}
use mir.Syntax.{w64}
use mir.Val.{SFits}
use mir.Facts.{to_z-of_z}
use Rattle.std.proofs.lemmas.Result.{err_from_is_err_and}
use Rattle.tables.specs.Lent.{table_of}
use Rattle.measures.specs.Rows.{measured}
use Rattle.printed.proofs.OneEntry.{written-by}
use Rattle.measures.proofs.OneEntry.{measured-comment, measured-row}
use Rattle.measures.proofs.entries.entry_length.Goals as goal

pub returns-in_err-sort_of : goal.returns-in_err-sort_of
returns-in_err-sort_of c =
    let a = c.args in
    let p = err_from_is_err_and c.from_residual.result c.from_residual.ensures.1 in
    let b : SFits w64 a.entry.bound = search rules in
    let s = rw (to_z-of_z b) at c.in_err-sort_of.ensures in
    rw (p.1, p.2) (sym (ap (measured a.mode) (written-by (table_of a.t) a.text.now a.entry a.mode _ s)))

pub returns-in-None : goal.returns-in-None
returns-in-None c =
    let a = c.args in
    let b : SFits w64 a.entry.bound = search rules in
    let s = rw (c.in-None.is, to_z-of_z b) at c.in_ok-sort_of.ensures in
    c.comment_length.ensures
    ∙ sym (ap (measured a.mode) (written-by (table_of a.t) a.text.now a.entry a.mode _ s)
    ∙ measured-comment a.mode (table_of a.t) a.text.now a.entry)

pub returns-in-Some : goal.returns-in-Some
returns-in-Some c =
    let a = c.args in
    let b : SFits w64 a.entry.bound = search rules in
    let s = rw (c.in-Some.is, to_z-of_z b) at c.in_ok-sort_of.ensures in
    c.part_length.ensures
    ∙ sym (ap (measured a.mode) (written-by (table_of a.t) a.text.now a.entry a.mode _ s)
    ∙ measured-row a.mode (table_of a.t) a.text.now a.entry c.in-Some.shape)
