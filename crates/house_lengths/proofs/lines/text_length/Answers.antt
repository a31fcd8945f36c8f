-- `text_length` meets its contract: the length of the head is added.
use native.Mathlib.Omega.{arith}
use mathlib.Core.Path.{◌≡◌, ap, ◌∙◌}
use Prim.Native.Nat.{ℕ, ◌+◌, ◌^◌, ◌≤◌, ◌<◌}
use lib.ListN.{length}
use Rattle.definitions.specs.Refusal.{needed}
use Rattle.definitions.specs.Number.{decimal}
use Rattle.laws.proofs.Digits.{count-length-most}
use Rattle.house_lengths.proofs.WordLaws.{head-length}
use Rattle.house_lengths.proofs.lines.text_length.Goals as goal
use Rattle.house_lengths.proofs.lines.text_length.Goals.{After-count_length-2, After-count_length-3, Start}

counted : (n r : ℕ) → n < 2 ^ 64 → r ≡ length (decimal n) → (r ≡ length (decimal n)) × (r ≤ 20)
counted n r h e = (e, omega (arith, e, count-length-most n h))

module _ (c : After-count_length-2) where
  abbrev start : Start
  start = (goal.at.After-count_length-2 c).Start

  rows-length : (c.count_length.result ≡ length (decimal start.args.rows)) × (c.count_length.result ≤ 20)
  rows-length = counted _ _ start.ranges.rows.fits c.count_length.ensures

  terms-length : (c.count_length-2.result ≡ length (decimal start.args.terms)) × (c.count_length-2.result ≤ 20)
  terms-length = counted _ _ (omega arith) c.count_length-2.ensures

first-length : (c : After-count_length-3)
    → (c.count_length-3.result ≡ length (decimal (start (goal.at.After-count_length-3 c).After-count_length-2).args.first)) × (c.count_length-3.result ≤ 20)
first-length c = counted _ _ (omega (arith, (start (goal.at.After-count_length-3 c).After-count_length-2).ranges.first.fits)) c.count_length-3.ensures

pub overflow_add-counts : goal.overflow_add-counts
overflow_add-counts c = omega (arith, rows-length c, terms-length c)

pub overflow_add-head : goal.overflow_add-head
overflow_add-head c = omega (arith, rows-length c, terms-length c)

pub overflow_add-head-2 : goal.overflow_add-head-2
overflow_add-head-2 c =
    let d = (goal.at.overflow_add-head-2 c).After-count_length-2 in
    omega (arith, rows-length d, terms-length d, first-length c)

pub returns : goal.returns
returns c =
    let d = (goal.at.returns c).After-count_length-2 in
    c.add_needed.ensures
    ∙ ap (λ (n : ℕ). needed (c.args.lines + n))
    (omega (
      arith,
      rows-length d,
      terms-length d,
      first-length (goal.at.returns c).After-count_length-3,
      head-length c.args.rows
          c.args.terms c.args.first,
    ))
