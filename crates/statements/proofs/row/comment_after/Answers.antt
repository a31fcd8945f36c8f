-- `comment_after` meets its contract: each answer, k blanks on.
use Rattle.statements.proofs.row.comment_after.Goals as goal

pub overflow_add-result : goal.overflow_add-result
overflow_add-result c = let h = rw c.in-Some.is at c.requires in record { fits = h.0 }

pub overflow_add-result-in-Some : goal.overflow_add-result-in-Some
overflow_add-result-in-Some c = let h = rw c.in-Some.is at c.requires in record { fits = h.1 }

pub returns-in-None : goal.returns-in-None
returns-in-None c = rw c.in-None.is

pub returns-in-Some : goal.returns-in-Some
returns-in-Some c = rw c.in-Some.is
