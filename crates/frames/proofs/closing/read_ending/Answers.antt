-- `read_ending` meets its contract: the closing behind the blanks.
use Prim.Native.Nat.{ℕ, ◌+◌, ◌≤◌}
use mathlib.Core.List.{List}
use mathlib.Core.Path.{◌≡◌, sym, ap, ◌∙◌}
use native.Mathlib.Omega.{arith}
use lib.ListN.{length}
use Rattle.definitions.specs.Reader.{got, more}
use Rattle.definitions.specs.Text.{closing, ending}
use Rattle.definitions.proofs.Parts.{part-is}
use Rattle.definitions.proofs.Statements.{within-ending}
use Rattle.definitions.proofs.Texts.{blanks-within}
use Rattle.frames.specs.Said.{said_ending}
use Rattle.frames.proofs.Closings.{ending-is}
use Rattle.frames.proofs.closing.read_ending.Goals as goal
use Rattle.frames.proofs.closing.read_ending.Goals.{After-blanks_of-k, After-read_closing, In_ok-semicolon}

-- behind the blanks
module _ (c : After-blanks_of-k) where
  abbrev text : List ℕ
  text = c.args.s.now

  abbrev gap : ℕ
  gap = c.blanks_of-k.result

  gap_within : gap ≤ length text
  gap_within = omega (arith, c.blanks_of-k.ensures, blanks-within text)

-- what the closing says of the whole
module _ (c : After-read_closing) where
  abbrev here : After-blanks_of-k
  here = (goal.at.After-read_closing c).After-blanks_of-k

  ending-by : ending (text here) ≡ more (gap here) (said_ending c.read_closing.result)
  ending-by =
      ending-is (text here) (gap here) here.blanks_of-k.ensures
      ∙ ap (more (gap here)) (sym (c.read_closing.ensures ∙ ap closing (part-is (text here) (gap here))))

module _ (c : In_ok-semicolon) where
  abbrev closed : After-read_closing
  closed = (goal.at.In_ok-semicolon c).After-read_closing

  ending-got : ending (text (here closed))
      ≡ got c.in_ok-semicolon.semicolon (gap (here closed) + c.in_ok-semicolon.n)
  ending-got = ending-by closed ∙ ap (λ r. more (gap (here closed)) (said_ending r)) c.in_ok-semicolon.was

pub slice_bounds-read_closing-count : goal.slice_bounds-read_closing-count
slice_bounds-read_closing-count c = gap_within c

pub slice_bounds-read_closing-start : goal.slice_bounds-read_closing-start
slice_bounds-read_closing-start c = gap_within c

pub returns-in_err-semicolon : goal.returns-in_err-semicolon
returns-in_err-semicolon c =
    let p = (goal.at.returns-in_err-semicolon c).After-read_closing in
    rw c.from_residual.ensures (sym (ending-by p ∙ ap (λ r. more (gap (here p)) (said_ending r)) c.in_err-semicolon.was))

pub overflow_add-result : goal.overflow_add-result
overflow_add-result c = omega (arith, within-ending.most (text (here (closed c))) _ _ (ending-got c))

pub returns : goal.returns
returns c = sym (ending-got c)
