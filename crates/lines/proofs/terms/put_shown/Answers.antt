-- `put_shown` meets its contract: the term with its file number, or nothing where it has none.
use Rattle.literals.proofs.Numbered.{number_is, no_number}
use Rattle.puts.proofs.SeveralLaws.{each_none, each-as}
use Rattle.lines.proofs.PieceLaws.{numbered-pieces, no_pieces}
use Rattle.lines.proofs.terms.put_shown.Goals as goal

pub returns-in-Some : goal.returns-in-Some
returns-in-Some c =
    let q = number_is _ _ _ c.of.ensures _ c.in-Some.is in
    each-as c.put_term.ensures (numbered-pieces c.args.style c.args.x _ q.0 q.1)

pub returns-in-None : goal.returns-in-None
returns-in-None c =
    each-as (each_none _ _) (no_pieces c.args.style c.args.x (no_number _ _ _ c.of.ensures c.in-None.is))
