-- `comment_length` meets its contract: 11 of a comment outside its text, then 15, else the text and three bytes.
use native.Mathlib.Omega.{arith}
use mathlib.Core.Path.{◌≡◌, sym, ◌∙◌}
use mathlib.Core.Bool.{true}
use Prim.Native.Nat.{◌+◌, ◌≤◌}
use borrow.Author.Tests.{leb-true}
use lib.Dec.{leb}
use lib.ListN.{length}
use Rattle.measures.proofs.Comments.{comment-outside, comment-broken, comment-whole}
use Rattle.measures.proofs.entries.comment_length.Goals as goal
use Rattle.measures.proofs.entries.comment_length.Goals.{Else-not-in_column}

inside : (c : Else-not-in_column) → leb (c.args.first + c.args.count)
    (length c.args.text.now) ≡ true
inside c = sym c.in_column.ensures ∙ c.if-not-in_column.false

within : (c : Else-not-in_column) → c.args.first + c.args.count
    ≤ length c.args.text.now
within c = leb-true _ _ (inside c)

pub returns-then-not-in_column : goal.returns-then-not-in_column
returns-then-not-in_column c =
    comment-outside c.args.first c.args.count c.args.text.now
    (sym c.in_column.ensures ∙ c.if-not-in_column.true)

pub returns-then-contains : goal.returns-then-contains
returns-then-contains c =
    comment-broken c.args.first c.args.count c.args.text.now (inside (goal.at.returns-then-contains c).Else-not-in_column)
    (sym c.contains.ensures.value ∙ c.if-contains.true)

pub overflow_add-length : goal.overflow_add-length
overflow_add-length c = omega (arith, within (goal.at.overflow_add-length c).Else-not-in_column, c.well_formed)

pub returns : goal.returns
returns c =
    comment-whole c.args.first c.args.count c.args.text.now (inside (goal.at.returns c).Else-not-in_column) (omega (arith, within (goal.at.returns c).Else-not-in_column, c.well_formed))
    (sym c.contains.ensures.value ∙ c.if-contains.false)
