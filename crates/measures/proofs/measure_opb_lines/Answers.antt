-- `measure_opb_lines` meets its contract: each turn counts one row (`Counting`, proofs/Counting.antt).
use native.Mathlib.Omega.{arith}
use mathlib.Core.Path.{◌≡◌, sym, ap, ◌∙◌}
use borrow.Author.Rules.{rules}
use Rattle.std.proofs.lemmas.Result.{err_from_is_err_and}
use Rattle.definitions.specs.Refusal.{refusal}
use Rattle.definitions.specs.declared.Refusal.{Refusal}
use Rattle.tables.specs.Lent.{table_of}
use Rattle.tables.proofs.Entries.{entry-ended}
use Rattle.measures.specs.Rows.{said_measured}
use Rattle.measures.proofs.Counting.{counting-none, counting-refused, counting_more, counting-all}
use Rattle.measures.proofs.Handed.{handed-err, handed-ok}
use Rattle.measures.proofs.measure_opb_lines.Goals as goal

pub loop-row-init : goal.loop-row-init
loop-row-init c = counting-none _ _ _

pub returns-in_err-more : goal.returns-in_err-more
returns-in_err-more c =
    let t = handed-err Refusal c.entry_length.result c.in_err-more.field-0.0 _ (λ e. c.in_err-more.field-0.0 ≡ refusal e.number c.loop-row.row-counter)
    c.in_err-more.ensures.cases (λ e q. search rules) in
    let p = err_from_is_err_and c.from_residual.result c.from_residual.ensures.1 in
    rw (p.1, p.2, t.2)
    (counting-refused c.args.mode (table_of c.args.t) c.args.text.now c.loop-row.invariant
    _ (sym c.entry.ensures ∙ c.in-Some.is) (said_measured c.entry_length.result) c.entry_length.ensures _ (ap said_measured t.1))

pub loop-row-preserved : goal.loop-row-preserved
loop-row-preserved c =
    let t = handed-ok Refusal c.entry_length.result c.in_ok-more.more _ c.in_ok-more.ensures.cases (λ e q. q) in
    counting_more c.args.mode (table_of c.args.t) c.args.text.now c.loop-row.invariant
    _ (sym c.entry.ensures ∙ c.in-Some.is) (said_measured c.entry_length.result) c.entry_length.ensures _ _ (ap said_measured t)
    c.add_extent-all.ensures

pub returns-in_default : goal.returns-in_default
returns-in_default c = counting-all _ _ _ c.loop-row.invariant (entry-ended (table_of c.args.t) _ (search rules))

pub returns-after-loop-row : goal.returns-after-loop-row
returns-after-loop-row c = counting-all _ _ _ c.loop-row.invariant (omega (arith, c.loop-row-test.false, c.row_room-row-end.ensures))
