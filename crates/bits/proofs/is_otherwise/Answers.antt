-- `bits::is_otherwise` meets its contract: a variable beyond the values or unmarked is not known, else its bit is
-- compared with the literal's sign. Assumes nothing.
use mathlib.Core.Path.{◌≡◌, sym, ◌∙◌}
use native.Mathlib.Omega.{arith}
use Rattle.definitions.specs.Literal.{index_of}
use Rattle.bits.proofs.Known.{unknown-beyond, unmarked, known-otherwise}
use Rattle.bits.proofs.is_otherwise.Goals as goal
use Rattle.bits.proofs.is_otherwise.Goals.{After-index-v}

-- the index that the code takes
variable : (i : After-index-v) → i.index-v.result ≡ index_of i.args.literal.0
variable i = i.index-v.ensures ∙ i.var.ensures

pub returns-then-v-values : goal.returns-then-v-values
returns-then-v-values c = unknown-beyond _ _ _ _ (variable (goal.at.returns-then-v-values c).After-index-v) c.if-v-values.true

pub returns-then-not-bit_at : goal.returns-then-not-bit_at
returns-then-not-bit_at c =
    unmarked _ _ _ _ (variable (goal.at.returns-then-not-bit_at c).After-index-v) (sym c.bit_at.ensures ∙ c.if-not-bit_at.true)

pub returns : goal.returns
returns c =
    rw (c.bit_at-2.ensures, c.is_neg.ensures)
    (known-otherwise _ _ _ _ (variable (goal.at.returns c).After-index-v) (omega (arith, c.if-v-values.false))
    (sym c.bit_at.ensures ∙ c.if-not-bit_at.false))
