-- `statement_length` meets its contract: the line's length is that of its words and of the fields of its terms.
use mathlib.Core.Path.{ap, ◌∙◌}
use borrow.Author.Rules.{rules}
use mir.Facts.{to_z-of_z}
use mir.Syntax.{w64}
use mir.Val.{SFits}
use Prim.Native.Nat.{ℕ}
use Rattle.house_lengths.specs.Lengths.{line_length}
use Rattle.listing_lengths.proofs.statement.statement_length.Goals as goal

pub returns : goal.returns
returns c =
    let e = c.args.entry in
    let b : SFits w64 e.bound = search rules in
    rw (to_z-of_z b) at c.line_length.ensures ∙ ap (λ (n : ℕ). line_length e.kind e.count e.bound n) c.fields_length-fields.ensures
