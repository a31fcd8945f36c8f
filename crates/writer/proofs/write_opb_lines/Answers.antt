-- `write_opb_lines` meets its contract: a refusal of the first walk, or 14, or the lines of the second.
use native.Mathlib.Omega.{arith}
use Rattle.std.proofs.lemmas.Result.{err_from_is_err_and}
use Rattle.tables.specs.Lent.{table_of}
use Rattle.writer.proofs.WholeCall.{writes-refused, writes-full, writes-ready, writes-done}
use Rattle.writer.proofs.write_opb_lines.Goals as goal

pub returns-in_err-all : goal.returns-in_err-all
returns-in_err-all c =
    let p = err_from_is_err_and c.from_residual.result c.from_residual.ensures.1 in
    rw (p.1, p.2) (writes-refused c.args.mode (table_of c.args.t) c.args.text.now c.args.out.now _ c.in_err-all.ensures)

pub returns-then-length-out : goal.returns-then-length-out
returns-then-length-out c =
    writes-full c.args.mode (table_of c.args.t) c.args.text.now c.args.out.now _ c.in_ok-all.ensures c.if-length-out.true

pub write_lines-requires : goal.write_lines-requires
write_lines-requires c =
    writes-ready c.args.mode (table_of c.args.t) c.args.text.now c.args.out.now _ c.in_ok-all.ensures c.if-length-out.false
    (omega (arith, c.well_formed))

pub returns : goal.returns
returns c =
    writes-done c.args.mode (table_of c.args.t) c.args.text.now c.args.out.now _ c.in_ok-all.ensures c.if-length-out.false
    (omega (arith, c.well_formed)) _ c.write_lines.ensures
