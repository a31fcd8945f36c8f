-- `put_operator` meets its contract: `= ` or `>= `.
use mathlib.Core.Path.{sym, ◌∙◌}
use Rattle.lines.proofs.frames.put_operator.Goals as goal

pub returns-then-is_equal : goal.returns-then-is_equal
returns-then-is_equal c =
    rw (sym c.is_equal.ensures ∙ c.if-is_equal.true) c.put_text.ensures

pub returns : goal.returns
returns c =
    rw (sym c.is_equal.ensures ∙ c.if-is_equal.false) c.put_text-2.ensures
