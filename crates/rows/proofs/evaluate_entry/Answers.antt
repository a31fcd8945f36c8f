-- `rows::evaluate_entry` meets its contract: a read kind, the sum of its terms, and the verdict on it
-- (proofs/RowAnswers.antt). Assumes nothing.
use Rattle.std.proofs.Common.{inl, inr, arith, rules, w64, FitsSigned}
use mir.Facts.{to_z-of_z}
use Rattle.rows.proofs.RowAnswers.{entry-unread, entry-refused, entry-verdict}
use Rattle.rows.proofs.evaluate_entry.Goals as goal
use Rattle.rows.proofs.evaluate_entry.Goals.{in_default-via-then-entry-lt1, in_default-via-else-entry-lt1+else-entry-lt5}

pub returns-in_default : goal.returns-in_default
returns-in_default c =
    let a = c.args in
    rw (
      c.at_row.ensures,
      entry-unread a.entry a.t.weights.now a.t.literals.now _ _ a.ones
          (elim c.in_default.branch [
            | in_default-via-then-entry-lt1 w ↦ inl (omega arith)
            | in_default-via-else-entry-lt1+else-entry-lt5 w ↦ inr (omega arith)
          ]),
    )

pub returns-in-Err : goal.returns-in-Err
returns-in-Err c =
    let a = c.args in
    rw (
      c.at_row-in-Err.ensures,
      entry-refused a.entry a.t.weights.now a.t.literals.now _ _ a.ones
          (omega arith) (omega arith) c.in-Err.fault.number c.in-Err.ensures,
    )

pub returns-in-Ok : goal.returns-in-Ok
returns-in-Ok c =
    let a = c.args in
    let f : FitsSigned w64 c.in-Ok.sum = search rules in
    let b : FitsSigned w64 a.entry.bound = search rules in
    entry-verdict a.entry a.t.weights.now a.t.literals.now _ _ a.ones
    (omega arith) (omega arith) c.in-Ok.sum a.row _ _ c.in-Ok.ensures c.read_kind.ensures
    (rw (to_z-of_z f, to_z-of_z b) at c.verdict.ensures)
