-- `literals::FileNumber::of` meets its contract: the sum of two u32 fits a u64, and `of_digits` tests it. Assumes
-- nothing.
use Rattle.definitions.specs.Literal.{file_number}
use Rattle.literals.specs.FileDigits.{file_number_of}
use Rattle.literals.proofs.FileNumber.of.Goals as goal

pub returns : goal.returns
unfolding file_number_of file_number
returns c = c.of_digits.ensures
