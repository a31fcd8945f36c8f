-- `put_row` meets its contract: the terms, and around them what the style and their sums say.
use mathlib.Core.Path.{◌∙◌}
use borrow.Author.Rules.{rules}
use mir.Syntax.{w64}
use mir.Val.{SFits}
use mir.Facts.{to_z-of_z}
use Rattle.lines.proofs.Rows.{row-lands, tail-objective, tail-constraint}
use Rattle.lines.proofs.put_row.Goals as goal

pub returns-then-style : goal.returns-then-style
returns-then-style c =
    let a = c.args in
    let f : SFits w64 a.shape.bound = search rules in
    let g : SFits w64 c.final_bound-z.result = search rules in
    row-lands a.mode a.shape a.weights.now a.literals.now c.style_of-style.ensures _ c.put_head-from.ensures c.put_terms-terms.ensures
    (to_z-of_z g ∙ rw (to_z-of_z f) at c.final_bound-z.ensures) (tail-objective a.shape.kind _ c.if-style.true c.put_ending.ensures)

pub returns : goal.returns
returns c =
    let a = c.args in
    let f : SFits w64 a.shape.bound = search rules in
    let g : SFits w64 c.final_bound-z.result = search rules in
    row-lands a.mode a.shape a.weights.now a.literals.now c.style_of-style.ensures _ c.put_head-from.ensures c.put_terms-terms.ensures
    (to_z-of_z g ∙ rw (to_z-of_z f) at c.final_bound-z.ensures)
    (tail-constraint a.shape.kind _ c.if-style.false c.put_comparison.ensures)
