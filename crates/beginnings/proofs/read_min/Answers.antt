-- `read_min` meets its contract: the word, then its blanks.
use mathlib.Core.Path.{sym, ap, ◌∙◌}
use Rattle.definitions.specs.Bytes.{blanks}
use Rattle.beginnings.proofs.Comments.{min-none, min-got}
use Rattle.beginnings.proofs.read_min.Goals as goal

pub returns-in_err-rest : goal.returns-in_err-rest
returns-in_err-rest c = rw c.from_residual.ensures (sym (min-none _ c.in_err-rest.ensures.cases))

pub returns : goal.returns
returns c =
    let e = c.in_ok-rest.ensures.cases in
    sym (min-got _ e.0 _ (c.blanks_of.ensures ∙ ap blanks e.1))
