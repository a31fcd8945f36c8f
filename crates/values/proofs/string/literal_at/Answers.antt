-- `string::literal_at` meets its contract: a variable within the limit has both literals. Assumes nothing.
use mathlib.Core.Path.{◌≡◌, sym, ap, ◌∙◌}
use Prim.Native.Nat.{ℕ}
use Rattle.std.specs.Prelude.{Option, Some, None}
use Rattle.std.specs.Option.{unwrap_or}
use lib.Dec.{eqb}
use Rattle.definitions.specs.Literal.{code_for}
use Rattle.definitions.specs.Refusal.{accept}
use Rattle.literals.proofs.Conversions.{accepted, no-refusal, literal-within}
use Rattle.literals.specs.Said.{said_lit}
use Rattle.literals.specs.declared.Lit.{Lit}
use Rattle.values.proofs.string.literal_at.Goals as goal

-- a literal that is there is the one taken
taken : (r : Option Lit) (d : Lit) (n : ℕ) → said_lit r ≡ accept n → (unwrap_or r d).0 ≡ n
taken (Some l) d n e = accepted _ _ e
taken None d n e = absurd (no-refusal _ _ (sym e))

pub returns : goal.returns
returns c =
    let a = c.args in
    rw c.unwrap_or.ensures (taken _ _ _
    (c.lit.ensures ∙ ap (code_for (eqb a.digit 48)) c.of_index.ensures
    ∙ sym (literal-within (eqb a.digit 48) a.variable c.requires)))
