-- `literals::FileNumber::of_digits` meets its contract: the test is the definition's. Assumes nothing.
use borrow.Author.Tests.{le-leb, lt-leb}
use Rattle.literals.specs.FileDigits.{file_number_of}
use Rattle.literals.proofs.FileNumber.of_digits.Goals as goal

pub returns-then-size-le-FILE_NUMBER_LIMIT : goal.returns-then-size-le-FILE_NUMBER_LIMIT
unfolding file_number_of
returns-then-size-le-FILE_NUMBER_LIMIT c = rw (le-leb _ _ c.if-size-le-FILE_NUMBER_LIMIT.true)

pub returns-else-size-le-FILE_NUMBER_LIMIT : goal.returns-else-size-le-FILE_NUMBER_LIMIT
unfolding file_number_of
returns-else-size-le-FILE_NUMBER_LIMIT c = rw (lt-leb _ _ c.if-size-le-FILE_NUMBER_LIMIT.false)
