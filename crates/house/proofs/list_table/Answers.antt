-- `list_table` meets its contract: a row that is refused, a text that is too long, or the head and the lines behind it.
use native.Mathlib.Omega.{arith}
use mathlib.Core.Path.{sym, ap, ◌∙◌}
use Rattle.std.proofs.lemmas.Result.{err_from_is_err_and}
use Rattle.house_measures.specs.Sizes.{said_measured}
use Rattle.house.proofs.Listings.{refused-sizes, accepted-sizes, lists-refused, listing_full}
use Rattle.house.proofs.Listings.{head-room, lines-ready, listing-all}
use Rattle.house.proofs.list_table.Goals as goal

pub returns-in_err-n : goal.returns-in_err-n
returns-in_err-n c =
    let p = err_from_is_err_and c.from_residual.result c.from_residual.ensures.1 in
    rw (p.1, p.2)
    (lists-refused _ _ _ _ _ (refused-sizes _ _ _ (sym (ap said_measured c.in_err-n.was) ∙ c.measure_rows.ensures)))

pub returns-then-length-out : goal.returns-then-length-out
returns-then-length-out c =
    let s = c.in_ok-n.size in
    listing_full _ _ _ _ c.in_ok-n.n s.terms s.length
    (accepted-sizes _ _ _ (sym (ap said_measured c.in_ok-n.was) ∙ c.measure_rows.ensures)) _ c.text_length-length.ensures
    c.if-length-out.true

pub put_head-at-requires : goal.put_head-at-requires
put_head-at-requires c =
    let s = c.in_ok-n.size in
    head-room _ c.args.rows _ _ c.in_ok-n.n s.terms s.length
    (accepted-sizes _ _ _ (sym (ap said_measured c.in_ok-n.was) ∙ c.measure_rows.ensures)) _ c.text_length-length.ensures
    c.if-length-out.false (omega arith)

pub put_rows-requires : goal.put_rows-requires
put_rows-requires c =
    let s = c.in_ok-n.size in
    lines-ready _ _ _ _ c.in_ok-n.n s.terms s.length
    (accepted-sizes _ _ _ (sym (ap said_measured c.in_ok-n.was) ∙ c.measure_rows.ensures)) _ c.text_length-length.ensures
    c.if-length-out.false (omega arith) c.put_head-at.ensures

pub returns : goal.returns
returns c =
    let s = c.in_ok-n.size in
    listing-all _ _ _ _ c.in_ok-n.n s.terms s.length
    (accepted-sizes _ _ _ (sym (ap said_measured c.in_ok-n.was) ∙ c.measure_rows.ensures)) _ c.text_length-length.ensures
    c.if-length-out.false (omega arith) c.put_head-at.ensures c.put_rows.ensures
