-- `put_row` meets its contract: the entry is accepted, so it is a comment or a row whose terms lie in their columns.
use native.Mathlib.Omega.{arith}
use Rattle.house_lengths.proofs.WordLaws.{comment-words}
use Rattle.house_measures.proofs.Entries.{accepted-comment, accepted-row}
use Rattle.house.proofs.lines.put_row.Goals as goal

pub put_comment-requires : goal.put_comment-requires
put_comment-requires c =
    rw (accepted-comment _ _ _ c.args.entry c.requires.line c.requires.is c.if-entry-eq-COMMENT.true, comment-words) at c.requires.room

pub returns-then-entry-eq-COMMENT : goal.returns-then-entry-eq-COMMENT
returns-then-entry-eq-COMMENT c =
    λ l q. rw (accepted-comment _ _ _ c.args.entry l q c.if-entry-eq-COMMENT.true, comment-words) c.put_comment.ensures

pub put_line-requires : goal.put_line-requires
put_line-requires c =
    let k = c.if-entry-eq-COMMENT.false in
    (omega (arith, k), (accepted-row _ _ _ c.args.entry c.requires.line c.requires.is k).inside, c.requires)
