-- What a line of a table says under an assignment, and the line that normalising makes of it: the words of
-- proofs/MeaningKept.antt.
use Rattle.std.specs.Prelude.{ℕ, Bool, ℤ}
use Rattle.definitions.specs.Row.{Line, comment, row}
use Rattle.definitions.specs.declared.Kind.{Kind}
use Rattle.definitions.specs.declared.Kind.TheVariants.{AtLeast as at_least, AtMost as at_most, Equal as equal, Objective as objective}
use Rattle.definitions.specs.Meaning.{Assignment, holds, value_of}
use Rattle.definitions.specs.Normal.{normal}

-- a comment as it is, whether a constraint holds, an objective's value
pub data Meaning : Type 0 where
  remark : ℕ → ℕ → ℤ → Meaning
  constraint : Bool → Meaning
  goal : ℤ → Meaning

abbrev pub meaning_by : Kind → Bool → ℤ → Meaning
meaning_by at_least h v = constraint h
meaning_by at_most h v = constraint h
meaning_by equal h v = constraint h
meaning_by objective h v = goal v

unfoldable pub meaning_of : Assignment → Line → Meaning
meaning_of a (comment f n b) = remark f n b
meaning_of a (row r) = meaning_by r.kind (holds a r) (value_of a r)

unfoldable pub normalised : Line → Line
normalised (comment f n b) = comment f n b
normalised (row r) = row (normal r)
