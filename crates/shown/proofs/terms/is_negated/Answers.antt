-- `is_negated` meets its contract: the literal that is tested is the opposite one or the literal itself.
use mathlib.Core.Path.{ap, ◌∙◌}
use Prim.Native.Nat.{ℕ}
use Rattle.definitions.specs.Literal.{negated}
use Rattle.shown.proofs.terms.is_negated.Goals as goal

pub returns-then-flip : goal.returns-then-flip
returns-then-flip c = c.is_neg.ensures ∙ rw c.if-flip.true (ap (λ (x : ℕ). negated x) c.negated.ensures)

pub returns : goal.returns
returns c = c.is_neg-2.ensures ∙ rw c.if-flip.false
