-- `row_after` meets its contract: each answer, k blanks on.
use Prim.Native.Nat.{◌+◌, ◌<◌, ◌^◌}
use native.Mathlib.Omega.{arith}
use Rattle.statements.proofs.row.row_after.Goals as goal

pub overflow_add-result : goal.overflow_add-result
overflow_add-result c =
    let h : c.args.k + c.in-Ok.taken < 2 ^ 64 =
    rw c.in-Ok.is at c.requires in
    omega arith

pub returns-in-Err : goal.returns-in-Err
returns-in-Err c = rw c.in-Err.is

pub returns-in-Ok : goal.returns-in-Ok
returns-in-Ok c = rw c.in-Ok.is
