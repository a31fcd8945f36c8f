-- `there_and_back` meets its contract: a refusal that was foreseen, with nothing changed; or both accept
-- (proofs/Laws.antt).
use Rattle.std.proofs.lemmas.Result.{err_from_is_err_and}
use Rattle.definitions.specs.Table.{Table, table}
use Rattle.tables.specs.Lent.{table_of}
use Rattle.promise.proofs.Laws.{not-back, text-within, part_length, came-back}
use Rattle.promise.proofs.there_and_back.Goals as goal
use Rattle.promise.proofs.there_and_back.Goals.{Start}

abbrev new-of : Start → Table
new-of s =
    table s.args.newkinds.now s.args.newfirsts.now s.args.newcounts.now s.args.newbounds.now
    s.args.newweights.now s.args.newliterals.now

pub returns-in_err-back : goal.returns-in_err-back
returns-in_err-back c =
    let s = (goal.at.returns-in_err-back c).Start in
    let p = err_from_is_err_and c.from_residual.result c.from_residual.ensures.1 in
    rw (p.1, p.2) (not-back s.args.mode (table_of s.args.t) s.args.text.now s.args.out.now (new-of s) _ c.in_err-back.ensures)

pub slice_bounds-parse_opb_data-end : goal.slice_bounds-parse_opb_data-end
slice_bounds-parse_opb_data-end c =
    let s = (goal.at.slice_bounds-parse_opb_data-end c).Start in
    text-within s.args.mode (table_of s.args.t) s.args.text.now s.args.out.now (new-of s) c.in_ok-back.back c.in_ok-back.ensures _ _
    c.write_opb_lines-written.ensures

pub slice_bounds-parse_opb_data-end-2 : goal.slice_bounds-parse_opb_data-end-2
slice_bounds-parse_opb_data-end-2 c =
    let s = (goal.at.slice_bounds-parse_opb_data-end-2 c).Start in
    part_length s.args.mode (table_of s.args.t) s.args.text.now s.args.out.now (new-of s) c.in_ok-back.back c.in_ok-back.ensures _ _
    c.write_opb_lines-written.ensures

pub returns : goal.returns
returns c =
    let s = (goal.at.returns c).Start in
    came-back s.args.mode (table_of s.args.t) s.args.text.now s.args.out.now (new-of s) c.in_ok-back.back c.in_ok-back.ensures _ _
    c.write_opb_lines-written.ensures _ _ c.parse_opb_data-read.ensures
