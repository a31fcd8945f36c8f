-- `read_comment` meets its contract: the text up to its line ending, with or without a space in front.
use Prim.Native.Nat.{ℕ, ◌+◌, ◌≤◌, ◌<◌}
use mathlib.Core.List.{List}
use mathlib.Core.Path.{◌≡◌, sym, ap, ◌∙◌}
use native.Mathlib.Omega.{arith}
use lib.ListN.{length, drop}
use Rattle.definitions.specs.Bytes.{line_ending, until_ending}
use Rattle.definitions.proofs.Parts.{part-is}
use Rattle.beginnings.proofs.Comments.{remark-empty, comment-text-within, comment-within, remark-spaced, remark-plain, remark-bare}
use Rattle.beginnings.proofs.read_comment.Goals as goal
use Rattle.beginnings.proofs.read_comment.Goals.{After-line_ending_of, After-until_ending_of-n, else-n-gt0-via-then-n-gt0+else-s-eq32, else-n-gt0-via-else-n-gt0}

-- the text up to its line ending
module _ (c : After-until_ending_of-n) where
  abbrev text : List ℕ
  text = c.args.s.now

  abbrev bytes : ℕ
  bytes = c.until_ending_of-n.result

  text-some : 0 < length text
  text-some = omega arith

  bytes-is : bytes ≡ until_ending (drop 1 text)
  bytes-is = c.until_ending_of-n.ensures ∙ ap until_ending (part-is text 1)

  bytes-within : bytes + 1 ≤ length text
  bytes-within = comment-text-within text bytes text-some bytes-is

-- the line ending behind it
module _ (c : After-line_ending_of) where
  abbrev here : After-until_ending_of-n
  here = (goal.at.After-line_ending_of c).After-until_ending_of-n

  ending-is : c.line_ending_of.result ≡ line_ending (drop (bytes here + 1) (text here))
  ending-is = c.line_ending_of.ensures ∙ ap line_ending (part-is (text here) (bytes here + 1))

pub returns-then-s-eq0 : goal.returns-then-s-eq0
returns-then-s-eq0 c = sym (remark-empty c.args.s.now c.if-s-eq0.true)

pub overflow_add-e : goal.overflow_add-e
overflow_add-e c = let h = bytes-within c in omega arith

pub slice_bounds-line_ending_of-count : goal.slice_bounds-line_ending_of-count
slice_bounds-line_ending_of-count c = bytes-within c

pub slice_bounds-line_ending_of-start : goal.slice_bounds-line_ending_of-start
slice_bounds-line_ending_of-start c = bytes-within c

pub overflow_add-taken : goal.overflow_add-taken
overflow_add-taken c =
    let e = here c in
    omega (arith, comment-within (text e) (bytes e) (text-some e) (bytes-is e) c.line_ending_of.result (ending-is c))

pub bounds-s-1 : goal.bounds-s-1
bounds-s-1 c = omega (arith, bytes-within (here (goal.at.bounds-s-1 c).After-line_ending_of))

pub returns-then-s-eq32 : goal.returns-then-s-eq32
returns-then-s-eq32 c =
    let p = (goal.at.returns-then-s-eq32 c).After-line_ending_of in
    let e = here p in
    sym (remark-spaced (text e) (bytes e) (text-some e) (bytes-is e) c.line_ending_of.result (ending-is p)
    c.if-n-gt0.true c.if-s-eq32.true)

pub returns : goal.returns
returns c =
    let p = (goal.at.returns c).After-line_ending_of in
    let e = here p in
    elim c.else-n-gt0.branch [
      | else-n-gt0-via-then-n-gt0+else-s-eq32 w ↦
          sym (remark-plain (text e) (bytes e) (text-some e) (bytes-is e) _ (ending-is p) w.if-n-gt0.true w.if-s-eq32.false)
      | else-n-gt0-via-else-n-gt0 w ↦ sym (remark-bare (text e) (bytes e) (text-some e) (bytes-is e) _ (ending-is p) (omega arith))
    ]
