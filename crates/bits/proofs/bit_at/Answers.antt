-- `bits::bit_at` meets its contract: beyond the words a bit is 0, else it is the bit of its word. Assumes nothing.
use Rattle.bits.proofs.Bits.{bit-of, bit-beyond}
use Rattle.bits.proofs.bit_at.Goals as goal

pub returns-then-index-words : goal.returns-then-index-words
returns-then-index-words c = bit-beyond _ _ c.if-index-words.true

pub returns : goal.returns
returns c = bit-of _ _
