-- `foretell` meets its contract, test by test (proofs/Laws.antt).
use mathlib.Core.Path.{sym}
use Rattle.foreseen.proofs.Laws.{foretold-full, foretold-long, foretold-rows, foretold-terms, foretold-back}
use Rattle.foreseen.proofs.foretell.Goals as goal

pub returns-then-length-room : goal.returns-then-length-room
returns-then-length-room c = sym (foretold-full _ _ _ _ c.if-length-room.true)

pub returns-then-length-gt-FILE_LIMIT : goal.returns-then-length-gt-FILE_LIMIT
returns-then-length-gt-FILE_LIMIT c = sym (foretold-long _ _ _ _ c.if-length-room.false c.if-length-gt-FILE_LIMIT.true)

pub returns-then-lines-rows : goal.returns-then-lines-rows
returns-then-lines-rows c = sym (foretold-rows _ _ _ _ c.if-length-room.false c.if-length-gt-FILE_LIMIT.false c.if-lines-rows.true)

pub returns-then-count-terms : goal.returns-then-count-terms
returns-then-count-terms c =
    sym (foretold-terms _ _ _ _ c.if-length-room.false c.if-length-gt-FILE_LIMIT.false c.if-lines-rows.false
    c.if-count-terms.true)

pub returns : goal.returns
returns c =
    sym (foretold-back _ _ _ _ c.if-length-room.false c.if-length-gt-FILE_LIMIT.false c.if-lines-rows.false c.if-count-terms.false)
