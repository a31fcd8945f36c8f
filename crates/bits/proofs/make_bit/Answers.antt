-- `bits::make_bit` meets its contract: beyond the words nothing is changed, else the word is the one with that bit
-- made. Assumes nothing.
use Rattle.bits.proofs.Bits.{made-beyond, made_in}
use Rattle.bits.proofs.make_bit.Goals as goal

pub returns-then-place-words : goal.returns-then-place-words
returns-then-place-words c = made-beyond _ _ _ c.if-place-words.true

pub returns : goal.returns
returns c = made_in _ _ _ _ c.word_with.ensures
