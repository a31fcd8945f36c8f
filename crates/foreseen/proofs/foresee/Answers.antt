-- `foresee` meets its contract: the rows' own refusal, or what is foretold of what they come to (proofs/Laws.antt).
use borrow.Author.Rules.{rules}
use mathlib.Core.Path.{◌≡◌, sym, ap, ◌∙◌}
use native.Mathlib.Omega.{arith}
use Prim.Native.Nat.{◌<◌}
use lib.ListN.{length}
use Rattle.std.proofs.lemmas.Result.{err_from_is_err_and}
use Rattle.definitions.specs.Limits.{needed_limit}
use Rattle.definitions.specs.Table.{row_room, term_room, accepted}
use Rattle.tables.specs.Lent.{table_of}
use Rattle.measures.specs.RowsMeasured.{said_measure, extent_for}
use Rattle.measures.proofs.Handed.{handed-err, handed-ok}
use Rattle.foreseen.specs.declared.NotBack.{NotBack}
use Rattle.foreseen.specs.declared.NotBack.TheVariants.{NotWritten}
use Rattle.foreseen.proofs.Laws.{refused-before, foretold-is}
use Rattle.foreseen.proofs.foresee.Goals as goal

pub returns-in_err-all : goal.returns-in_err-all
returns-in_err-all c =
    let t = handed-err NotBack c.measure_opb_lines.result c.in_err-all.field-0.0 _ (λ r. c.in_err-all.field-0.0 ≡ NotWritten r) c.in_err-all.ensures.cases
    (λ e q. search rules) in
    let p = err_from_is_err_and c.from_residual.result c.from_residual.ensures.1 in
    rw (p.1, p.2, t.2)
    (refused-before c.args.mode (table_of c.args.t) c.args.text.now (length c.args.out.now) _ (table_of c.args.new)
    (sym (ap said_measure t.1) ∙ c.measure_opb_lines.ensures))

pub returns : goal.returns
returns c =
    let t = handed-ok NotBack c.measure_opb_lines.result c.in_ok-all.all _ c.in_ok-all.ensures.cases (λ e q. q) in
    let e : accepted c.in_ok-all.all ≡ extent_for c.args.mode (table_of c.args.t) c.args.text.now =
    sym (ap said_measure t) ∙ c.measure_opb_lines.ensures in
    let r : c.row_room.result ≡ row_room (table_of c.args.new) = c.row_room.ensures in
    let t : c.term_room.result ≡ term_room (table_of c.args.new) = c.term_room.ensures in
    let small : length c.args.out.now < needed_limit = omega (arith, c.well_formed) in
    let few : row_room (table_of c.args.new) < needed_limit = omega (arith, c.well_formed) in
    let short : term_room (table_of c.args.new) < needed_limit = omega (arith, c.well_formed) in
    c.foretell.ensures
    ∙ rw (r, t) (foretold-is c.args.mode (table_of c.args.t) c.args.text.now (length c.args.out.now) (table_of c.args.new) small few short _ e)
