-- `goal_length` meets its contract: the sum stands behind `min:` and blanks (statements' proofs/MetTerms.antt).
use Prim.Native.Nat.{ℕ, ◌+◌, ◌≤◌}
use mathlib.Core.List.{List}
use mathlib.Core.Path.{◌≡◌, sym, ap, ◌∙◌}
use native.Mathlib.Omega.{arith}
use lib.ListN.{length}
use Rattle.definitions.specs.Reader.{got}
use Rattle.definitions.specs.Text.{min_blanks}
use Rattle.definitions.proofs.Parts.{part-is}
use Rattle.definitions.proofs.Statements.{within-min-blanks}
use Rattle.beginnings.specs.Said.{said_min}
use Rattle.sums.specs.Met.{met_terms}
use Rattle.statements.proofs.MetTerms.{goal-none, goal-behind}
use Rattle.listing_lengths.specs.Measure.{fields_length}
use Rattle.listing_lengths.proofs.LineLengths.{none-length}
use Rattle.listing_lengths.proofs.statement.goal_length.Goals as goal
use Rattle.listing_lengths.proofs.statement.goal_length.Goals.{In-Some, Start}

-- `min:` and k blanks were read
module _ (c : In-Some) where
  abbrev start : Start
  start = (goal.at.In-Some c).Start

  abbrev text : List ℕ
  text = start.args.s.now

  abbrev gap : ℕ
  gap = c.in-Some.k

  begun : got gap (4 + gap) ≡ min_blanks text
  begun = sym (ap said_min c.in-Some.is) ∙ c.read_min.ensures

  within : gap + 4 ≤ length text
  within = omega (arith, within-min-blanks.most text gap (4 + gap) (sym begun))

pub returns-in_default : goal.returns-in_default
returns-in_default c =
    let e = sym c.read_min.ensures ∙ ap said_min c.in_default.is in
    none-length c.args.options.first ∙ ap (fields_length c.args.options.first)
    (sym (goal-none c.args.options c.args.s.now _ e))

pub overflow_add-a : goal.overflow_add-a
overflow_add-a c = omega (arith, within c, (start c).well_formed)

pub slice_bounds-sum_length-count : goal.slice_bounds-sum_length-count
slice_bounds-sum_length-count c = within c

pub slice_bounds-sum_length-start : goal.slice_bounds-sum_length-start
slice_bounds-sum_length-start c = within c

pub returns : goal.returns
returns c =
    let s = start (goal.at.returns c).In-Some in
    let e : min_blanks (text (goal.at.returns c).In-Some) ≡ got (gap (goal.at.returns c).In-Some) (gap (goal.at.returns c).In-Some + 4) = sym (begun (goal.at.returns c).In-Some) ∙ ap (got (gap (goal.at.returns c).In-Some)) (omega arith) in
    c.sum_length.ensures
    ∙ ap (λ (t : List ℕ). fields_length s.args.options.first (met_terms s.args.options t)) (part-is (text (goal.at.returns c).In-Some) (gap (goal.at.returns c).In-Some + 4))
    ∙ ap (fields_length s.args.options.first) (sym (goal-behind s.args.options (text (goal.at.returns c).In-Some) (gap (goal.at.returns c).In-Some) (gap (goal.at.returns c).In-Some + 4) e))
