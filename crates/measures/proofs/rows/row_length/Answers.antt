-- `row_length` meets its contract: 11 from the terms, and then what is counted of them decides.
use mathlib.Core.Path.{sym, ap, ◌∙◌}
use Rattle.std.proofs.lemmas.Result.{err_from_is_err_and}
use Rattle.shown.specs.declared.terms.Style.{Style}
use Rattle.shown.specs.Terms.{own_terms}
use Rattle.measures.specs.Tallies.{no_tally, tallied, said_tally}
use Rattle.measures.proofs.Measures.{measured-refused, measured-counted, refused-by}
use Rattle.measures.proofs.rows.row_length.Goals as goal

pub returns-in_err-t : goal.returns-in_err-t
returns-in_err-t c =
    let p = err_from_is_err_and c.from_residual.result c.from_residual.ensures.1 in
    let n = refused-by c.tally_terms.result _ _ c.in_err-t.ensures.value in
    rw (p.1, p.2, n.1)
    (measured-refused c.args.shape c.args.weights.now c.args.literals.now c.requires c.args.mode
    (sym (ap said_tally n.0) ∙ c.tally_terms.ensures
    ∙ ap (λ (s : Style). tallied s no_tally (own_terms s.unit c.args.weights.now c.args.literals.now)) c.style_of-style.ensures))

pub returns : goal.returns
returns c =
    c.counted_length.ensures
    ∙ measured-counted c.args.shape c.args.weights.now c.args.literals.now c.requires c.args.mode _
    (sym (ap said_tally c.in_ok-t.ensures.ok_part) ∙ c.tally_terms.ensures
    ∙ ap (λ (s : Style). tallied s no_tally (own_terms s.unit c.args.weights.now c.args.literals.now)) c.style_of-style.ensures)
