-- `close_constraint` meets its contract: a comparison, then the size and the bound (proofs/Closings.antt).
use mathlib.Core.Path.{◌≡◌, sym, ap, ◌∙◌}
use borrow.Author.Rules.{rules, sfits_of}
use mir.Syntax.{w64}
use mir.Val.{SFits}
use mir.Facts.{to_z-of_z}
use Rattle.operators.specs.Bounds.{compared}
use Rattle.definitions.specs.Text.{bound_of}
use Rattle.std.proofs.lemmas.Result.{err_from_is_err_and}
use Rattle.frames.proofs.Closings.{refused}
use Rattle.operators.specs.Said.{said_bound}
use Rattle.closings.proofs.Closings.{closed-heavy, closed-beyond, closed-row}
use Rattle.closings.proofs.close_constraint.Goals as goal
use Rattle.closings.proofs.close_constraint.Goals.{After-bound_of}

pub returns-in_err-comparison : goal.returns-in_err-comparison
returns-in_err-comparison c =
    let p = err_from_is_err_and c.from_residual.result c.from_residual.ensures.1 in
    rw (p.1, p.2, ← c.in_err-comparison.ensures)

pub returns-then-size-gt-WEIGHT_LIMIT : goal.returns-then-size-gt-WEIGHT_LIMIT
returns-then-size-gt-WEIGHT_LIMIT c =
    let r = c.in_ok-comparison.comparison in
    rw (← c.in_ok-comparison.ensures) (closed-heavy c.args.options _ _ r.operator r.number r.semicolon r.taken c.if-size-gt-WEIGHT_LIMIT.true)

bound-is : (c : After-bound_of) → said_bound c.bound_of.result ≡ compared (bound_of c.in_ok-comparison.comparison.operator c.in_ok-comparison.comparison.number)
bound-is c = let f : SFits w64 c.in_ok-comparison.comparison.number = sfits_of (search rules) in rw (to_z-of_z f) at c.bound_of.ensures

pub returns-in_err-bound : goal.returns-in_err-bound
returns-in_err-bound c =
    let p = err_from_is_err_and c.from_residual-in_err-bound.result c.from_residual-in_err-bound.ensures.1 in
    let r = c.in_ok-comparison.comparison in
    let e = sym (ap said_bound c.in_err-bound.ensures.ok_part) ∙ bound-is (goal.at.returns-in_err-bound c).After-bound_of in
    rw (p.1, p.2, refused _ _ _ c.in_err-bound.ensures.value, ← c.in_ok-comparison.ensures)
    (closed-beyond c.args.options c.args.terms c.args.size r.operator r.number r.semicolon r.taken e)

pub returns : goal.returns
returns c =
    let r = c.in_ok-comparison.comparison in
    let f : SFits w64 c.in_ok-bound.bound = sfits_of (search rules) in
    let e = sym (ap said_bound c.in_ok-bound.ensures.ok_part) ∙ bound-is (goal.at.returns c).After-bound_of in
    rw (to_z-of_z f, c.kind_of.ensures, ← c.in_ok-comparison.ensures)
    (closed-row c.args.options _ _ r.operator r.number r.semicolon r.taken _ c.if-size-gt-WEIGHT_LIMIT.false e)
