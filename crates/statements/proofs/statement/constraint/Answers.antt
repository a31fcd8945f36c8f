-- `constraint` meets its contract: a sum, and what closes it on the part that it left (proofs/Rows.antt).
use Prim.Native.Nat.{ℕ, ◌≤◌}
use mathlib.Core.List.{List}
use mathlib.Core.Path.{◌≡◌, sym, ap, subst, ◌∙◌}
use native.Mathlib.Omega.{arith}
use lib.ListN.{length, drop, length-drop}
use Rattle.std.proofs.lemmas.Result.{err_from_is_err_and}
use Rattle.definitions.specs.Reader.{more}
use Rattle.definitions.specs.Text.{comparison}
use Rattle.definitions.proofs.Parts.{part-is}
use Rattle.definitions.proofs.Statements.{sum-within}
use Rattle.closings.specs.Closed.{said_row, closed_by}
use Rattle.statements.specs.Fitting.{Fitting}
use Rattle.sums.specs.Brief.{said_sum}
use Rattle.statements.proofs.Rows.{constraint-no-sum, constraint-sum, closed-fits}
use Rattle.sums.proofs.Sums.{SumIs, sum_of, sum-refused}
use Rattle.statements.proofs.statement.constraint.Goals as goal
use Rattle.statements.proofs.statement.constraint.Goals.{After-close_constraint-closed, In_ok-sum, Start}

-- a sum is read
module _ (c : In_ok-sum) where
  abbrev start : Start
  start = (goal.at.In_ok-sum c).Start

  abbrev text : List ℕ
  text = start.args.s.now

  abbrev terms : ℕ
  terms = c.in_ok-sum.sum.terms

  abbrev size : ℕ
  size = c.in_ok-sum.sum.size

  abbrev count : ℕ
  count = c.in_ok-sum.sum.taken

  sum_is : SumIs start.args.options text terms size count
  sum_is =
      sum_of _ text terms size count
      (sym (ap said_sum c.in_ok-sum.was) ∙ c.weighted_lit_sum.ensures.answer)

  within : count ≤ length text
  within = (sum-within start.args.options text sum_is.terms count sum_is.is).0

pub slice_bounds-close_constraint-count : goal.slice_bounds-close_constraint-count
slice_bounds-close_constraint-count c = within (goal.at.slice_bounds-close_constraint-count c).In_ok-sum

pub slice_bounds-close_constraint-start : goal.slice_bounds-close_constraint-start
slice_bounds-close_constraint-start c = within (goal.at.slice_bounds-close_constraint-start c).In_ok-sum

-- and what closes it
module _ (c : After-close_constraint-closed) where
  abbrev told : In_ok-sum
  told = (goal.at.After-close_constraint-closed c).In_ok-sum

  closed : said_row c.close_constraint-closed.result
      ≡ closed_by (start told).args.options (terms told) (size told) (comparison (drop (count told) (text told)))
  closed =
      c.close_constraint-closed.ensures
      ∙ ap (λ (t : List ℕ). closed_by (start told).args.options (terms told) (size told) (comparison t))
      (part-is (text told) (count told))

pub behind-requires : goal.behind-requires
behind-requires c =
    let d = told c in
    subst (Fitting (count d)) (sym (closed c))
    (closed-fits (start d).args.options (terms d) (size d) (count d) (drop (count d) (text d))
    (omega (arith, within d, length-drop (count d) (text d), (start d).well_formed.0.0)))

pub returns-in_err-sum : goal.returns-in_err-sum
returns-in_err-sum c =
    let p = err_from_is_err_and c.from_residual.result c.from_residual.ensures.1 in
    rw (p.1, p.2) (record {
      answer = constraint-no-sum _ _ _ (sum-refused _ _ _ (sym (ap said_sum c.in_err-sum.was) ∙ c.weighted_lit_sum.ensures.answer));
      filled = c.weighted_lit_sum.ensures.filled;
    })

pub returns : goal.returns
returns c =
    let p = (goal.at.returns c).After-close_constraint-closed in
    let d = told p in
    record {
      answer = c.behind.ensures ∙ ap (more (count d)) (closed p) ∙ constraint-sum _ (text d) _ _ _ (sum_is d);
      filled = d.weighted_lit_sum.ensures.filled;
    }
