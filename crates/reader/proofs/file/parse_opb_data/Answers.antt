-- `parse_opb_data` meets its contract: what the first walk counted, held against the room, is what `reading` says
-- (proofs/Files.antt).
use Rattle.std.proofs.lemmas.Result.{err_from_is_err_and}
use mathlib.Core.Path.{◌≡◌, sym, ap, ◌∙◌}
use Rattle.definitions.specs.Answers.{said_counted}
use Rattle.definitions.specs.Table.{Table, table, counted}
use Rattle.definitions.specs.File.{reading}
use Rattle.reader.proofs.Files.{reading-said, read-refused, ready}
use Rattle.reader.proofs.file.parse_opb_data.Goals as goal
use Rattle.reader.proofs.file.parse_opb_data.Goals.{After-fitted, Start}

module _ (c : After-fitted) where
  abbrev start : Start
  start = (goal.at.After-fitted c).Start

  abbrev lent : Table
  lent =
      table start.args.kinds.now start.args.firsts.now start.args.counts.now start.args.bounds.now
      start.args.weights.now
      start.args.literals.now

  said : said_counted c.fitted.result ≡ counted (reading start.args.options start.args.s.now lent)
  said =
      reading-said start.args.options start.args.s.now lent c.count_file.result c.fitted.result
      (rw (c.term_room-terms.ensures, c.row_room-rows.ensures) at c.fitted.ensures)
      c.count_file.ensures

pub fill_file-requires : goal.fill_file-requires
fill_file-requires c =
    let p = (goal.at.fill_file-requires c).After-fitted in
    ready _ _ (lent p) _ (sym (ap said_counted c.in_ok-found.was) ∙ said p)

pub returns-in_err-found : goal.returns-in_err-found
returns-in_err-found c =
    let p = (goal.at.returns-in_err-found c).After-fitted in
    let e = err_from_is_err_and c.from_residual.result c.from_residual.ensures.1 in
    rw (e.1, e.2) (read-refused _ _ (lent p) _ (sym (ap said_counted c.in_err-found.was) ∙ said p))

pub returns : goal.returns
returns c =
    record {
      answer = sym (ap said_counted c.in_ok-found.was) ∙ said (goal.at.returns c).After-fitted;
      after = c.fill_file.ensures;
    }
