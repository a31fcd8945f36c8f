-- `objective` meets its contract: `min:` and blanks, a sum, and an ending, each on the part that the last one left
-- (proofs/Rows.antt).
use Prim.Native.Nat.{ℕ, ◌+◌, ◌≤◌}
use mathlib.Core.List.{List}
use mathlib.Core.Path.{◌≡◌, sym, ap, subst, ◌∙◌}
use native.Mathlib.Omega.{arith}
use lib.ListN.{length, drop, length-drop}
use Rattle.std.proofs.lemmas.Result.{err_from_is_err_and}
use Rattle.definitions.specs.Reader.{got, more}
use Rattle.definitions.specs.Text.{sum, min_blanks, ending}
use Rattle.definitions.proofs.Parts.{part-is}
use Rattle.definitions.proofs.Statements.{sum-within, within-min-blanks}
use Rattle.beginnings.specs.Said.{said_min}
use Rattle.sums.specs.Brief.{summed}
use Rattle.closings.specs.Closed.{said_row, ended_by}
use Rattle.statements.specs.Fitting.{Fitting}
use Rattle.sums.specs.Brief.{said_sum}
use Rattle.sums.specs.Walked.{TermsPut}
use Rattle.statements.specs.Met.{goal_met}
use Rattle.statements.proofs.MetTerms.{none-put, goal-none, goal-behind}
use Rattle.statements.proofs.Rows.{goal-no-min, goal-no-sum, goal-sum, ended-fits}
use Rattle.sums.proofs.Sums.{SumIs, sum_of, sum-refused}
use Rattle.statements.proofs.statement.objective.Goals as goal
use Rattle.statements.proofs.statement.objective.Goals.{After-close_objective-closed, After-weighted_lit_sum, In-Some, In_ok-sum, Start}

-- `min:` is read
module _ (c : In-Some) where
  abbrev start : Start
  start = (goal.at.In-Some c).Start

  abbrev text : List ℕ
  text = start.args.s.now

  abbrev blanks : ℕ
  blanks = c.in-Some.k

  abbrev min-end : ℕ
  min-end = blanks + 4

  min-got : min_blanks text ≡ got blanks min-end
  min-got =
      let e : 4 + blanks ≡ blanks + 4 = omega arith in
      sym c.read_min.ensures ∙ ap said_min c.in-Some.is ∙ ap (got blanks) e

  min-within : min-end ≤ length text
  min-within = within-min-blanks.most text blanks min-end min-got

-- what was read behind it
module _ (c : After-weighted_lit_sum) where
  abbrev behind-min : In-Some
  behind-min = (goal.at.After-weighted_lit_sum c).In-Some

  sum_said : said_sum c.weighted_lit_sum.result
      ≡ summed (sum (start behind-min).args.options (drop (min-end behind-min) (text behind-min)))
  sum_said =
      c.weighted_lit_sum.ensures.answer
      ∙ ap (λ (t : List ℕ). summed (sum (start behind-min).args.options t))
      (part-is (text behind-min) (min-end behind-min))

  sum-put : TermsPut (goal_met (start behind-min).args.options (text behind-min)) (start behind-min).args.weights.now
      (start behind-min).args.literals.now
      c.weighted_lit_sum.new.weights c.weighted_lit_sum.new.literals
  sum-put =
      rw (
        goal-behind (start behind-min).args.options (text behind-min) _ _ (min-got behind-min),
        ← part-is (text behind-min) (min-end behind-min),
      )
      c.weighted_lit_sum.ensures.filled

-- a sum
module _ (c : In_ok-sum) where
  abbrev at_sum : After-weighted_lit_sum
  at_sum = (goal.at.In_ok-sum c).After-weighted_lit_sum

  abbrev whole : List ℕ
  whole = text (behind-min at_sum)

  abbrev from : ℕ
  from = min-end (behind-min at_sum)

  abbrev terms : ℕ
  terms = c.in_ok-sum.sum.terms

  abbrev size : ℕ
  size = c.in_ok-sum.sum.size

  abbrev count : ℕ
  count = c.in_ok-sum.sum.taken

  sum_is : SumIs (start (behind-min at_sum)).args.options (drop from whole) terms size count
  sum_is = sum_of _ (drop from whole) terms size count (sym (ap said_sum c.in_ok-sum.was) ∙ sum_said at_sum)

  sum-end-within : from + count ≤ length whole
  sum-end-within =
      omega (
        arith,
        min-within (behind-min at_sum),
        length-drop from whole,
        (sum-within (start (behind-min at_sum)).args.options (drop from whole) sum_is.terms count sum_is.is).0,
      )

pub returns-in_default : goal.returns-in_default
returns-in_default c =
    let q = sym c.read_min.ensures ∙ ap said_min c.in_default.is in
    record { answer = goal-no-min _ _ q; filled = rw (goal-none _ _ _ q) (none-put _ _) }

pub overflow_add-a : goal.overflow_add-a
overflow_add-a c = omega (arith, min-within c)

pub slice_bounds-weighted_lit_sum-count : goal.slice_bounds-weighted_lit_sum-count
slice_bounds-weighted_lit_sum-count c = min-within c

pub slice_bounds-weighted_lit_sum-start : goal.slice_bounds-weighted_lit_sum-start
slice_bounds-weighted_lit_sum-start c = min-within c

pub overflow_add-e : goal.overflow_add-e
overflow_add-e c = omega (arith, sum-end-within (goal.at.overflow_add-e c).In_ok-sum)

pub slice_bounds-close_objective-count : goal.slice_bounds-close_objective-count
slice_bounds-close_objective-count c = sum-end-within (goal.at.slice_bounds-close_objective-count c).In_ok-sum

pub slice_bounds-close_objective-start : goal.slice_bounds-close_objective-start
slice_bounds-close_objective-start c = sum-end-within (goal.at.slice_bounds-close_objective-start c).In_ok-sum

-- and what closes it
module _ (c : After-close_objective-closed) where
  abbrev told : In_ok-sum
  told = (goal.at.After-close_objective-closed c).In_ok-sum

  abbrev end : ℕ
  end = from told + count told

  closed : said_row c.close_objective-closed.result
      ≡ ended_by (start (behind-min (at_sum told))).args.options (terms told) (size told)
      (ending (drop end (whole told)))
  closed =
      c.close_objective-closed.ensures
      ∙ ap (λ (t : List ℕ). ended_by (start (behind-min (at_sum told))).args.options (terms told) (size told)
      (ending t))
      (part-is (whole told) end)

pub behind-requires : goal.behind-requires
behind-requires c =
    let d = told c in
    subst (Fitting (end c)) (sym (closed c))
    (ended-fits (start (behind-min (at_sum d))).args.options (terms d) (size d) (end c) (drop (end c) (whole d))
    (omega (arith, sum-end-within d, length-drop (end c) (whole d), (start (behind-min (at_sum d))).well_formed.0.0)))

pub returns-in_err-sum : goal.returns-in_err-sum
returns-in_err-sum c =
    let q = err_from_is_err_and c.from_residual.result c.from_residual.ensures.1 in
    let p = (goal.at.returns-in_err-sum c).After-weighted_lit_sum in
    let b = behind-min p in
    rw (q.1, q.2) (record {
      answer = goal-no-sum _ (text b) _ _ (min-got b) _ (sum-refused _ _ _ (sym (ap said_sum c.in_err-sum.was) ∙ sum_said p));
      filled = sum-put p;
    })

pub returns : goal.returns
returns c =
    let p = (goal.at.returns c).After-close_objective-closed in
    let d = told p in
    record {
      answer =
          c.behind.ensures
          ∙ ap (more (end p)) (closed p)
          ∙ goal-sum _ (whole d) _ (from d) (min-got (behind-min (at_sum d))) _ _ (count d) (sum_is d);
      filled = sum-put (at_sum d);
    }
