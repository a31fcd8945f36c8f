-- `fitted` meets its contract: 9, then 10 (proofs/Counted.antt).
use Rattle.counts.proofs.Counted.{rows-beyond, terms-beyond, both-fit}
use Rattle.counts.proofs.fitted.Goals as goal

pub returns-then-rows-all : goal.returns-then-rows-all
returns-then-rows-all c =
    rw c.in_ok-all.was
    (rows-beyond c.args.rows c.args.terms c.in_ok-all.all c.if-rows-all.true)

pub returns-then-terms-all : goal.returns-then-terms-all
returns-then-terms-all c =
    rw c.in_ok-all.was
    (terms-beyond c.args.rows c.args.terms c.in_ok-all.all c.if-rows-all.false
    c.if-terms-all.true)

pub returns : goal.returns
returns c =
    rw c.in_ok-all.was
    (both-fit c.args.rows c.args.terms c.in_ok-all.all c.if-rows-all.false c.if-terms-all.false)
