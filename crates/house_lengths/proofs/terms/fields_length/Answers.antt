-- `fields_length` meets its contract: the digits of weight and file number, a sign, the two tabs, `x`, and `~` where it
-- stands.
use native.Mathlib.Omega.{arith}
use mathlib.Core.Path.{◌≡◌, ap, ◌∙◌}
use Prim.Native.Nat.{ℕ, ◌≤◌}
use lib.ListN.{length}
use lib.IntN.{ℤ}
use mir.Facts.{to_z-of_z}
use Rattle.definitions.specs.Number.{decimal, integer_text}
use Rattle.laws.proofs.Digits.{count-length-most, number-length-most}
use Rattle.house_lengths.proofs.Fields.{tilde-words-length, plain-words-length}
use Rattle.house_lengths.proofs.terms.fields_length.Goals as goal
use Rattle.house_lengths.proofs.terms.fields_length.Goals.{After-count_length, Start}

module _ (c : After-count_length) where
  abbrev start : Start
  start = (goal.at.After-count_length c).Start

  weight-length : (c.number_length.result ≡ length (integer_text start.args.w)) ×
      (length (integer_text start.args.w) ≤ 20)
  weight-length = (
    c.number_length.ensures ∙ ap (λ (z : ℤ). length (integer_text z)) (to_z-of_z start.ranges.w),
    number-length-most start.args.w start.ranges.w,
  )

  number-length : (c.count_length.result ≡ length (decimal start.args.n.0)) × (c.count_length.result ≤ 20)
  number-length =
      let e = c.count_length.ensures ∙ ap (λ (n : ℕ). length (decimal n)) c.number.ensures in
      (e, omega (arith, e, count-length-most start.args.n.0 (omega arith)))

pub overflow_add-digits : goal.overflow_add-digits
overflow_add-digits c = omega (arith, weight-length c, number-length c)

pub overflow_add-result : goal.overflow_add-result
overflow_add-result c =
    let d = (goal.at.overflow_add-result c).After-count_length in
    omega (arith, weight-length d, number-length d)

pub overflow_add-result-else-tilde : goal.overflow_add-result-else-tilde
overflow_add-result-else-tilde c =
    let d = (goal.at.overflow_add-result-else-tilde c).After-count_length in
    omega (arith, weight-length d, number-length d)

pub returns-then-tilde : goal.returns-then-tilde
returns-then-tilde c =
    let d = (goal.at.returns-then-tilde c).After-count_length in
    let s = start d in
    omega (
      arith,
      weight-length d,
      number-length d,
      tilde-words-length s.args.w s.args.tilde
          s.args.n.0 c.if-tilde.true,
    )

pub returns-else-tilde : goal.returns-else-tilde
returns-else-tilde c =
    let d = (goal.at.returns-else-tilde c).After-count_length in
    let s = start d in
    omega (
      arith,
      weight-length d,
      number-length d,
      plain-words-length s.args.w s.args.tilde
          s.args.n.0 c.if-tilde.false,
    )
