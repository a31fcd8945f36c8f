-- `bits::make_true` meets its contract: one bit of the values and one of the known words. Assumes nothing.
use mathlib.Core.Path.{◌∙◌}
use Rattle.bits.proofs.Known.{valued_one, marked-one}
use Rattle.bits.proofs.make_true.Goals as goal

pub returns : goal.returns
returns c =
    let e = c.index-v.ensures ∙ c.var.ensures in
    record { values = valued_one _ _ _ _ _ e c.is_pos.ensures c.make_bit.ensures; known = marked-one _ _ _ _ e c.make_bit-2.ensures }
