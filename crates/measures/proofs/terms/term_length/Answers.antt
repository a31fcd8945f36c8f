-- `term_length` meets its contract: the digits of weight and file number, a sign, the two spaces, `x`, and `~` where it
-- stands.
use native.Mathlib.Omega.{arith}
use borrow.Author.Rules.{rules}
use mathlib.Core.Path.{◌≡◌, ap, ◌∙◌}
use Prim.Native.Nat.{ℕ, ◌≤◌, ◌^◌}
use lib.ListN.{length}
use lib.IntN.{ℤ}
use mir.Syntax.{w64}
use mir.Val.{SFits}
use mir.Facts.{to_z-of_z}
use Rattle.definitions.specs.Number.{decimal, integer_text}
use Rattle.definitions.proofs.Numbers.{decimal-length-most}
use Rattle.shown.specs.declared.terms.Shown.{Shown}
use Rattle.laws.proofs.Digits.{number-length-most}
use Rattle.shown.proofs.OneTerm.{term-words-tilde, term-words-plain}
use Rattle.measures.proofs.terms.term_length.Goals as goal
use Rattle.measures.proofs.terms.term_length.Goals.{After-count_length}

module _ (c : After-count_length) where
  abbrev shown : Shown
  shown = c.args.t

  weight-fits : SFits w64 shown.weight
  weight-fits = search rules

  sized : c.number_length.result ≡ length (integer_text shown.weight)
  sized = c.number_length.ensures ∙ ap (λ (z : ℤ). length (integer_text z)) (to_z-of_z weight-fits)

  numbered : c.count_length.result ≡ length (decimal c.args.n.0)
  numbered = c.count_length.ensures ∙ ap (λ (n : ℕ). length (decimal n)) c.number.ensures

  short : length (decimal c.args.n.0) ≤ 2 ^ 32
  short = omega (
    arith,
    decimal-length-most c.args.n.0,
    c.number.type_inv,
    c.number.ensures,
  )

pub overflow_add-digits : goal.overflow_add-digits
overflow_add-digits c = omega (arith, sized c, numbered c, short c, number-length-most (shown c).weight (weight-fits c))

pub overflow_add-result : goal.overflow_add-result
overflow_add-result c = omega (arith, sized (goal.at.overflow_add-result c).After-count_length, numbered (goal.at.overflow_add-result c).After-count_length, short (goal.at.overflow_add-result c).After-count_length, number-length-most (shown (goal.at.overflow_add-result c).After-count_length).weight (weight-fits (goal.at.overflow_add-result c).After-count_length))

pub overflow_add-result-else-t : goal.overflow_add-result-else-t
overflow_add-result-else-t c = omega (arith, sized (goal.at.overflow_add-result-else-t c).After-count_length, numbered (goal.at.overflow_add-result-else-t c).After-count_length, short (goal.at.overflow_add-result-else-t c).After-count_length, number-length-most (shown (goal.at.overflow_add-result-else-t c).After-count_length).weight (weight-fits (goal.at.overflow_add-result-else-t c).After-count_length))

pub returns-then-t : goal.returns-then-t
returns-then-t c = omega (
  arith,
  sized (goal.at.returns-then-t c).After-count_length,
  numbered (goal.at.returns-then-t c).After-count_length,
  term-words-tilde (shown (goal.at.returns-then-t c).After-count_length) c.args.n.0 c.if-t.true,
)

pub returns-else-t : goal.returns-else-t
returns-else-t c = omega (
  arith,
  sized (goal.at.returns-else-t c).After-count_length,
  numbered (goal.at.returns-else-t c).After-count_length,
  term-words-plain (shown (goal.at.returns-else-t c).After-count_length) c.args.n.0 c.if-t.false,
)
