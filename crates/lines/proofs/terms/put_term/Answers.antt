-- `put_term` meets its contract: the space before, the weight, the literal, the space behind.
use borrow.Author.Rules.{rules}
use mir.Syntax.{w64}
use mir.Val.{SFits}
use mir.Facts.{to_z-of_z}
use Rattle.puts.proofs.SeveralLaws.{each-one, each-then}
use Rattle.lines.proofs.terms.put_term.Goals as goal

pub returns : goal.returns
returns c =
    let f : SFits w64 c.args.x.weight = search rules in
    each-then c.put_space-from.ensures
    (each-then (each-one (rw (to_z-of_z f) at c.put_number-literal.ensures))
    (each-then (each-one c.put_literal-end.ensures) c.put_space.ensures))
