-- `counted_length` meets its contract: 13, 5 and 8 in their order, or what the terms come to with what stands around
-- them.
use mathlib.Core.Path.{sym, ap, ap₂, ◌∙◌}
use Prim.Native.Nat.{ℕ, ◌+◌}
use borrow.Author.Tests.{not-true, not-false}
use lib.IntN.{ℤ}
use lib.ListN.{length}
use mir.Syntax.{w64}
use mir.Val.{SFits}
use mir.Facts.{to_z-of_z}
use borrow.Author.Rules.{rules}
use Rattle.std.proofs.lemmas.Result.{err_from_is_err_and}
use Rattle.definitions.specs.Refusal.{accept, needed}
use Rattle.printed.specs.Bounds.{said_bound}
use Rattle.printed.proofs.Differences.{printed-fits}
use Rattle.measures.specs.Rows.{frame_text, frame_lines}
use Rattle.measures.proofs.Measures.{counted-lacking, counted-unnumbered, counted-framed, refused-by}
use Rattle.measures.proofs.rows.counted_length.Goals as goal

pub returns-then-lacks_terms : goal.returns-then-lacks_terms
returns-then-lacks_terms c = counted-lacking _ _ _ (sym c.lacks_terms.ensures ∙ c.if-lacks_terms.true)

pub returns-then-not-t : goal.returns-then-not-t
returns-then-not-t c =
    counted-unnumbered c.args.shape c.args.count c.args.t (sym c.lacks_terms.ensures ∙ c.if-lacks_terms.false)
    (not-true _ c.if-not-t.true)

pub returns-in_err-z : goal.returns-in_err-z
returns-in_err-z c =
    let p = err_from_is_err_and c.from_residual.result c.from_residual.ensures.1 in
    let b : SFits w64 c.args.shape.bound = search rules in
    let n = refused-by c.printed_bound.result _ _ c.in_err-z.ensures.value in
    rw (p.1, p.2, n.1)
    (counted-framed c.args.shape c.args.count c.args.t (sym c.lacks_terms.ensures ∙ c.if-lacks_terms.false) _
    (not-false _ c.if-not-t.false)
    (rw (to_z-of_z b) at (sym (ap said_bound n.0) ∙ c.printed_bound.ensures)))

pub returns : goal.returns
returns c =
    let b : SFits w64 c.args.shape.bound = search rules in
    let s = rw (to_z-of_z b) at (sym (ap said_bound c.in_ok-z.ensures.ok_part) ∙ c.printed_bound.ensures) in
    let f = printed-fits _ _ _ _ _ s in
    ap₂ (λ (l n : ℕ). accept (record { length = l; lines = n; terms = c.args.count }))
    (c.add_needed.ensures
    ∙ ap (λ (n : ℕ). needed (c.args.t.length + n))
    (c.frame_length.ensures ∙ ap (λ (z : ℤ). length (frame_text c.args.shape.kind z)) (to_z-of_z f)))
    (c.frame_lines.ensures ∙ ap (frame_lines c.args.shape.kind) (to_z-of_z f))
    ∙ counted-framed c.args.shape c.args.count c.args.t (sym c.lacks_terms.ensures ∙ c.if-lacks_terms.false) _
    (not-false _ c.if-not-t.false) s
