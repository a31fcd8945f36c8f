-- `digits_in` meets its contract: the lanes are digits exactly if the word's bytes are, and then their value is the
-- lanes' (proofs/DigitLanes.antt).
use mathlib.Core.Path.{refl, sym, ◌∙◌}
use Rattle.plain_parts.proofs.DigitLanes.{digits-test, digits_are}
use Rattle.plain_parts.proofs.word.digits_in.Goals as goal

pub returns-then-are_digits : goal.returns-then-are_digits
returns-then-are_digits c =
    record {
      mark = refl;
      long = refl;
      are = digits_are c.args.word c.args.bits c.requires (sym c.are_digits.ensures ∙ c.if-are_digits.true);
    }

pub returns-else-are_digits : goal.returns-else-are_digits
returns-else-are_digits c =
    sym (digits-test c.args.word c.args.bits c.requires) ∙ sym c.are_digits.ensures ∙ c.if-are_digits.false
