-- `print_number` meets its contract: the text of an integer is that of its size, with a sign before it below 0.
use mathlib.Core.Path.{◌≡◌, ap, ◌∙◌}
use lib.IntN.{nat_abs, pos}
use lib.Signed.{lt_z}
use mir.Facts.{to_z-of_z}
use Rattle.definitions.specs.Number.{integer_text}
use Rattle.outputs.specs.Print.{signed_text}
use Rattle.outputs.proofs.PrintLaws.{integer-is}
use Rattle.outputs.proofs.print_number.Goals as goal
use Rattle.outputs.proofs.print_number.Goals.{After-magnitude-m, Start}

-- the size is known
module _ (c : After-magnitude-m) where
  abbrev start : Start
  start = (goal.at.After-magnitude-m c).Start

  size : c.magnitude-m.result ≡ nat_abs start.args.value
  size = c.magnitude-m.ensures ∙ ap nat_abs (to_z-of_z start.ranges.value)

  text : signed_text (lt_z start.args.value (pos 0)) c.magnitude-m.result ≡ integer_text start.args.value
  text = ap (signed_text (lt_z start.args.value (pos 0))) size ∙ integer-is start.args.value

pub returns-then-m-ge10000 : goal.returns-then-m-ge10000
returns-then-m-ge10000 c =
    rw (to_z-of_z (start (goal.at.returns-then-m-ge10000 c).After-magnitude-m).ranges.value, text (goal.at.returns-then-m-ge10000 c).After-magnitude-m) at c.print_long.ensures

pub returns : goal.returns
returns c =
    rw (to_z-of_z (start (goal.at.returns c).After-magnitude-m).ranges.value, text (goal.at.returns c).After-magnitude-m) at c.print_few.ensures
