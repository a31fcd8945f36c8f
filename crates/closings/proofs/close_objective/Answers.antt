-- `close_objective` meets its contract: an ending, and then the size (proofs/Closings.antt).
use mathlib.Core.Path.{sym, ap, ◌∙◌}
use mathlib.Core.Bool.{false}
use Rattle.std.proofs.lemmas.Result.{err_from_is_err_and}
use Rattle.frames.specs.Said.{said_ending}
use Rattle.frames.proofs.Closings.{refused}
use Rattle.closings.specs.Closed.{ended_by}
use Rattle.closings.proofs.Closings.{ended-heavy, ended-row}
use Rattle.closings.proofs.close_objective.Goals as goal

pub returns-in_err-taken : goal.returns-in_err-taken
returns-in_err-taken c =
    let p = err_from_is_err_and c.from_residual.result c.from_residual.ensures.1 in
    rw (p.1, p.2, refused _ _ _ c.in_err-taken.ensures.value)
    (ap (ended_by c.args.options c.args.terms c.args.size)
    (sym (ap said_ending c.in_err-taken.ensures.ok_part) ∙ c.read_ending.ensures))

pub returns-then-size-gt-WEIGHT_LIMIT : goal.returns-then-size-gt-WEIGHT_LIMIT
returns-then-size-gt-WEIGHT_LIMIT c =
    rw (← c.read_ending.ensures, c.in_ok-taken.ensures.ok_part)
    (ended-heavy c.args.options _ _ false _ c.if-size-gt-WEIGHT_LIMIT.true)

pub returns : goal.returns
returns c =
    rw (← c.read_ending.ensures, c.in_ok-taken.ensures.ok_part)
    (ended-row c.args.options _ _ false _ c.if-size-gt-WEIGHT_LIMIT.false)
