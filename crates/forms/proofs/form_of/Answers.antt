-- `forms::form_of` meets its contract: an `x`, an empty block, a string, else numbers. Assumes nothing.
use mathlib.Core.Path.{◌≡◌, sym, ap, ◌∙◌}
use mathlib.Core.Bool.{false}
use native.Mathlib.Omega.{arith}
use borrow.Author.Tests.{eqb-true}
use lib.Seq.{take_all}
use Rattle.definitions.proofs.Parts.{part-is}
use Rattle.forms.proofs.Forms.{is_string, has_x, any-is, form-string, form-numbers, form-empty}
use Rattle.forms.proofs.form_of.Goals as goal
use Rattle.forms.proofs.form_of.Goals.{then-is_empty-via-then-is_empty, then-is_empty-via-else-is_empty+then-is_string}

pub returns-then-is_empty : goal.returns-then-is_empty
returns-then-is_empty c =
    let text = c.args.block.now in
    let no_x : has_x text ≡ false = grind (arith, take_all) in
    elim c.then-is_empty.branch [
      | then-is_empty-via-then-is_empty w ↦ form-empty text (eqb-true _ 0 (sym c.is_empty.ensures ∙ w.if-is_empty.true))
      | then-is_empty-via-else-is_empty+then-is_string w ↦
          form-string text (any-is text false no_x) (sym (w.is_string.ensures ∙ ap is_string (part-is text 1)) ∙ w.if-is_string.true)
    ]

pub returns : goal.returns
returns c =
    let text = c.args.block.now in
    let no_x : has_x text ≡ false = grind (arith, take_all) in
    form-numbers text (any-is text false no_x) (sym (c.is_string.ensures ∙ ap is_string (part-is text 1)) ∙ c.if-is_string.false)
