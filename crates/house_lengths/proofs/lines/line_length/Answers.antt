-- `line_length` meets its contract: a comment's line, or a row's.
use mathlib.Core.Path.{◌∙◌}
use borrow.Author.Tests.{eq-eqb, ne_eqb}
use mir.Facts.{to_z-of_z}
use Rattle.house_lengths.proofs.lines.line_length.Goals as goal

pub returns-then-kind-eq-COMMENT : goal.returns-then-kind-eq-COMMENT
returns-then-kind-eq-COMMENT c = c.comment_length.ensures ∙ rw (eq-eqb c.args.kind 0 c.if-kind-eq-COMMENT.true)

pub returns : goal.returns
returns c = c.row_length.ensures ∙ rw (to_z-of_z c.ranges.bound, ne_eqb c.args.kind 0 c.if-kind-eq-COMMENT.false)
