-- `behind` meets its contract: each answer, n bytes on.
use native.Mathlib.Omega.{arith}
use Rattle.std.proofs.lemmas.Result.{err_from_is_err_and}
use Rattle.statements.proofs.row.behind.Goals as goal

pub overflow_add-result : goal.overflow_add-result
overflow_add-result c = let h = rw c.in_ok-entry.was at c.requires in omega arith

pub returns-in_err-entry : goal.returns-in_err-entry
returns-in_err-entry c =
    let p = err_from_is_err_and c.from_residual.result c.from_residual.ensures.1 in
    rw (p.1, p.2, c.in_err-entry.was)

pub returns : goal.returns
returns c = rw c.in_ok-entry.was
