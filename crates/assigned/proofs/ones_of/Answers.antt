-- `assigned::ones_of` meets its contract. The loop's invariant: the known ones of the words passed (`Counted`,
-- proofs/Counts.antt), at most 64 of each. Assumes nothing.
use Rattle.std.proofs.Common.{arith, ◌<◌, ◌^◌, rules, take, get_or, option_copied}
use Rattle.assigned.proofs.Counts.{counted_none, counted-more, counted-all}
use Rattle.assigned.proofs.ones_of.Goals as goal

pub loop-i-init : goal.loop-i-init
loop-i-init c = counted_none _ _

pub loop-i-preserved : goal.loop-i-preserved
loop-i-preserved c =
    let l = c.loop-i in
    let ws = take c.min.result c.args.words.now in
    let f : get_or ws l.i 0 < 2 ^ 64 = search rules in
    rw (c.from-ones.ensures, c.known_word-bits.ensures)
    (counted-more (option_copied c.args.known) ws l.i l.ones l.invariant c.loop-i-test.true f)

pub returns : goal.returns
returns c = let l = c.loop-i in counted-all _ _ _ l.i l.ones c.min.ensures l.invariant (omega arith)
