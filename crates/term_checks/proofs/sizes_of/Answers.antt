-- `term_checks::sizes_of` meets its contract. The loop's invariant: the size of the weights passed, and those left, are
-- the sum up to the cap (`Summed`, proofs/SizeLaws.antt). Assumes nothing.
use Rattle.std.proofs.Common.{pos, get_or, w64, FitsSigned, rules}
use mir.Facts.{to_z-of_z}
use Rattle.term_checks.proofs.SizeLaws.{summed-more, summed-all}
use Rattle.term_checks.proofs.sizes_of.Goals as goal

pub loop-weight-preserved : goal.loop-weight-preserved
loop-weight-preserved c =
    let l = c.loop-weight in
    let ws = c.args.weights.now in
    let f : FitsSigned w64 (get_or ws l.weight-index (pos 0)) = search rules in
    rw (c.add_size-size.ensures, to_z-of_z f) (summed-more ws l.weight-index l.size l.invariant c.loop-weight-test.true)

pub returns : goal.returns
returns c = let l = c.loop-weight in summed-all _ l.weight-index l.size l.invariant c.loop-weight-test.false
