-- `put_offset` meets its contract: nothing for 0, else the words, the number and the line's end.
use mathlib.Core.Path.{◌≡◌, sym, ap, ◌∙◌}
use lib.IntN.{pos}
use mir.Syntax.{w64}
use mir.Val.{to_z, of_z}
use mir.Facts.{to_z-of_z}
use Rattle.printed.proofs.PrintedTexts.{not-zero}
use Rattle.puts.proofs.SeveralLaws.{each_none, each-one, each-then}
use Rattle.lines.proofs.frames.put_offset.Goals as goal

pub returns-then-z-eq0 : goal.returns-then-z-eq0
returns-then-z-eq0 c =
    let e : c.args.z ≡ pos 0 = sym (to_z-of_z c.ranges.z) ∙ ap (to_z w64) c.if-z-eq0.true in
    rw e (each_none _ _)

pub returns : goal.returns
returns c =
    rw (not-zero c.args.z (λ q. c.if-z-eq0.false (ap (of_z w64) q)))
    (each-then (each-one c.put_text-number.ensures)
    (each-then (each-one (rw (to_z-of_z c.ranges.z) at c.put_number-end.ensures)) (each-one c.put_text.ensures)))
