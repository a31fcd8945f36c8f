-- `read_closing` meets its contract: the closing by its first byte, and the blanks and the line ending counted.
use Prim.Native.Nat.{ℕ, ◌+◌, ◌≤◌}
use mathlib.Core.List.{List}
use mathlib.Core.Path.{◌≡◌, sym, ap, ◌∙◌}
use native.Mathlib.Omega.{arith}
use lib.ListN.{length, drop, length-drop}
use Rattle.definitions.specs.Bytes.{blanks, line_ending}
use Rattle.definitions.proofs.Parts.{part-is}
use Rattle.definitions.proofs.Texts.{blanks-within, ending-within}
use Rattle.frames.proofs.Closings.{closing-empty, closing-semicolon, closing-line, closing-none}
use Rattle.frames.proofs.closing.read_closing.Goals as goal
use Rattle.frames.proofs.closing.read_closing.Goals.{After-blanks_of-k, After-line_ending_of-n}

-- behind the `;`
module _ (c : After-blanks_of-k) where
  abbrev text : List ℕ
  text = c.args.s.now

  abbrev gap : ℕ
  gap = c.blanks_of-k.result

  gap_is : gap ≡ blanks (drop 1 text)
  gap_is = c.blanks_of-k.ensures ∙ ap blanks (part-is text 1)

  gap_within : gap + 1 ≤ length text
  gap_within = omega (arith, gap_is, blanks-within (drop 1 text), length-drop 1 text)

-- behind its blanks
module _ (c : After-line_ending_of-n) where
  abbrev here : After-blanks_of-k
  here = (goal.at.After-line_ending_of-n c).After-blanks_of-k

  line-is : c.line_ending_of-n.result ≡ line_ending (drop (gap here + 1) (text here))
  line-is = c.line_ending_of-n.ensures ∙ ap line_ending (part-is (text here) (gap here + 1))

pub returns-then-s-eq0 : goal.returns-then-s-eq0
returns-then-s-eq0 c = sym (closing-empty c.args.s.now c.if-s-eq0.true)

pub overflow_add-a : goal.overflow_add-a
overflow_add-a c = let h = gap_within c in omega arith

pub slice_bounds-line_ending_of-count : goal.slice_bounds-line_ending_of-count
slice_bounds-line_ending_of-count c = gap_within c

pub slice_bounds-line_ending_of-start : goal.slice_bounds-line_ending_of-start
slice_bounds-line_ending_of-start c = gap_within c

pub overflow_add-result : goal.overflow_add-result
overflow_add-result c =
    let e = here c in
    omega (
      arith,
      gap_within e,
      line-is c,
      ending-within (drop (gap e + 1) (text e)),
      length-drop (gap e + 1) (text e),
    )

pub returns-then-s-eq59 : goal.returns-then-s-eq59
returns-then-s-eq59 c =
    let e = here c in
    sym (closing-semicolon (text e) (gap e) c.line_ending_of-n.result (omega (arith, gap_within e))
    e.if-s-eq59.true (gap_is e) (line-is c))

pub returns-then-n-eq0 : goal.returns-then-n-eq0
returns-then-n-eq0 c =
    let s = c.args.s.now in
    sym (closing-none s (omega arith) c.if-s-eq59.false (sym c.line_ending_of-n-2.ensures ∙ c.if-n-eq0.true))

pub returns : goal.returns
returns c =
    let s = c.args.s.now in
    sym (closing-line s c.line_ending_of-n-2.result (omega arith) c.if-s-eq59.false c.line_ending_of-n-2.ensures
    c.if-n-eq0.false)
