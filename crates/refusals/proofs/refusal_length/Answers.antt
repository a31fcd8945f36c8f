-- `refusal_length` meets its contract: the digits of number and place, the word, two tabs and an LF.
use native.Mathlib.Omega.{arith}
use mathlib.Core.Path.{◌≡◌}
use Prim.Native.Nat.{◌≤◌}
use lib.ListN.{length}
use Rattle.definitions.specs.Number.{decimal}
use Rattle.laws.proofs.Digits.{count-length-most}
use Rattle.refusals.proofs.Lines.{refused-length}
use Rattle.refusals.proofs.refusal_length.Goals as goal
use Rattle.refusals.proofs.refusal_length.Goals.{After-count_length, After-count_length-2}

number-length : (c : After-count_length)
    → (c.count_length.result ≡ length (decimal c.args.number)) × (c.count_length.result ≤ 20)
number-length c = (
  c.count_length.ensures,
  omega (
    arith,
    c.count_length.ensures,
    count-length-most c.args.number
        (omega (arith, c.ranges.number.fits)),
  ),
)

place-length : (c : After-count_length-2)
    → (c.count_length-2.result ≡ length (decimal c.args.place)) × (c.count_length-2.result ≤ 20)
place-length c =
    (c.count_length-2.ensures, omega (arith, c.count_length-2.ensures, count-length-most c.args.place c.ranges.place.fits))

pub overflow_add-result : goal.overflow_add-result
overflow_add-result c = omega (arith, number-length c)

pub overflow_add-result-2 : goal.overflow_add-result-2
overflow_add-result-2 c = omega (arith, number-length (goal.at.overflow_add-result-2 c).After-count_length, place-length c)

pub returns : goal.returns
returns c = omega (arith, number-length (goal.at.returns c).After-count_length, place-length c, refused-length c.args.number c.args.place)
