-- `normal_checks::check_row` meets its contract: a comment, a kind that is not read, terms outside their columns, or
-- the row's terms, whose parts are handed on (proofs/Entries.antt). Assumes nothing.
use Rattle.std.proofs.Common.{◌≡◌, ◌+◌, ◌-◌, sym, ap, ◌∙◌, arith, rules, leb, w64, FitsSigned}
use mir.Facts.{to_z-of_z}
use Rattle.normal_checks.specs.FirstWalk.{term_count}
use Rattle.normal_checks.proofs.Entries.{of-comment, of-unread, of-outside, check-inside}
use Rattle.normal_checks.proofs.check_row.Goals as goal

pub returns-then-entry-eq-COMMENT : goal.returns-then-entry-eq-COMMENT
returns-then-entry-eq-COMMENT c =
    let a = c.args in sym (ap term_count (of-comment a.t.weights.now a.t.literals.now a.entry c.if-entry-eq-COMMENT.true))

pub returns-then-entry-gt-OBJECTIVE : goal.returns-then-entry-gt-OBJECTIVE
returns-then-entry-gt-OBJECTIVE c =
    let a = c.args in sym (ap term_count (of-unread a.t.weights.now a.t.literals.now a.entry c.if-entry-gt-OBJECTIVE.true))

pub returns-then-not-in_column : goal.returns-then-not-in_column
returns-then-not-in_column c =
    let a = c.args in
    sym (ap term_count
    (of-outside a.t.weights.now a.t.literals.now a.entry c.if-entry-eq-COMMENT.false c.if-entry-gt-OBJECTIVE.false
    (ap (leb (a.entry.first + a.entry.count)) (sym c.term_room.ensures) ∙ sym c.in_column.ensures ∙ c.if-not-in_column.true)))

pub returns : goal.returns
returns c =
    let a = c.args in
    let n : a.entry.first + a.entry.count - a.entry.first ≡ a.entry.count = omega arith in
    let f : FitsSigned w64 a.entry.bound = search rules in
    rw (check-inside a.t.weights.now a.t.literals.now a.entry c.if-entry-eq-COMMENT.false c.if-entry-gt-OBJECTIVE.false
    (ap (leb (a.entry.first + a.entry.count)) (sym c.term_room.ensures) ∙ sym c.in_column.ensures ∙ c.if-not-in_column.false))
    (rw (to_z-of_z f, n) at c.check_terms.ensures)
