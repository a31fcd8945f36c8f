-- `final_bound` meets its contract: the bound that is printed, or 0.
use borrow.Author.Rules.{sfits_of}
use mathlib.Core.Path.{◌≡◌, ap, ◌∙◌}
use lib.IntN.{ℤ, pos}
use mir.Syntax.{w64}
use mir.Facts.{to_z-of_z}
use Rattle.std.specs.Prelude.{Option, Some, None}
use Rattle.std.specs.Option.{unwrap_or}
use Rattle.definitions.specs.Refusal.{Checked}
use Rattle.printed.specs.Bounds.{said_bound}
use Rattle.lines.specs.LinePieces.{final_bound}
use Rattle.lines.proofs.frames.final_bound.Goals as goal

final-is : (b : Option ℤ) (r : Checked ℤ) → said_bound b ≡ r → unwrap_or b (pos 0) ≡ final_bound r
final-is (Some z) r e = ap final_bound e
final-is None r e = ap final_bound e

pub returns : goal.returns
returns c =
    to_z-of_z {w = w64} (sfits_of c.unwrap_or.type_inv)
    ∙ c.unwrap_or.ensures ∙ final-is _ _ (rw (to_z-of_z c.ranges.bound) at c.printed_bound.ensures)
