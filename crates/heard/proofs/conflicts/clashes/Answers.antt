-- `heard::conflicts::clashes` meets its contract: the variable is known otherwise, or the opposite literal is marked.
-- Assumes nothing.
use Prim.Native.Nat.{ℕ, ◌-◌, ◌*◌}
use mathlib.Core.Path.{sym, ap, ◌∙◌}
use native.Mathlib.Omega.{arith}
use Rattle.definitions.specs.Meaning.{assigned}
use Rattle.heard.proofs.Split.{opposite-index}
use Rattle.heard.proofs.Marking.{clash-otherwise, clash-marked}
use Rattle.heard.proofs.conflicts.clashes.Goals as goal

pub returns-then-is_otherwise : goal.returns-then-is_otherwise
returns-then-is_otherwise c =
    c.if-is_otherwise.true ∙ clash-otherwise _ _ _ _ _ (sym c.is_otherwise.ensures ∙ c.if-is_otherwise.true)

pub overflow_sub-opposite : goal.overflow_sub-opposite
overflow_sub-opposite c =
    omega (
      arith,
      c.code-opposite.ensures,
      c.negated.ensures,
      opposite-index c.args.literal.0,
    )

pub returns-else-is_otherwise : goal.returns-else-is_otherwise
returns-else-is_otherwise c =
    c.bit_at.ensures
    ∙ ap (λ (o : ℕ). assigned c.args.marks.now (o - 2 * c.args.base))
    (c.code-opposite.ensures ∙ c.negated.ensures)
    ∙ clash-marked _ _ _ _ _ (sym c.is_otherwise.ensures ∙ c.if-is_otherwise.false)
