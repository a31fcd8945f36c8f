-- `first_of` meets its contract: the kind is compared with a comment's.
use borrow.Author.Tests.{ne_eqb}
use Rattle.columns.proofs.first_of.Goals as goal

pub returns-then-kind-eq-COMMENT : goal.returns-then-kind-eq-COMMENT
returns-then-kind-eq-COMMENT c = rw c.if-kind-eq-COMMENT.true

pub returns-else-kind-eq-COMMENT : goal.returns-else-kind-eq-COMMENT
returns-else-kind-eq-COMMENT c = rw (ne_eqb _ 0 c.if-kind-eq-COMMENT.false)
