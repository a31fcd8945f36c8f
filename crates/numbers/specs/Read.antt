-- What the code's answers to reading say, in the words of the definitions.
use Rattle.std.specs.Prelude.{ℕ, min, List, length, ℤ, Option, Some, None}
use Rattle.definitions.specs.Refusal.{fault}
use Rattle.definitions.specs.Reader.{Got, none, got}
use Rattle.definitions.specs.Number.{leading, value}
use Rattle.numbers.specs.declared.Run.{Run}

-- "number missing, sign alone, or beyond 64 bits": 3
abbrev pub said : Option (ℤ × ℕ) → Got ℤ
said (Some (z, n)) = got z n
said None = none (fault 3)

-- A size stops here, so that any number of digits is read. It is one more than 64 signed bits hold at either sign, so a
-- size that stopped is beyond them,
-- and it is beyond a file number too.
abbrev pub cap : ℕ
cap = 9_223_372_036_854_775_809

-- the digits at the front: how many there are, and their value up to the cap
abbrev pub run_of : List ℕ → Run
run_of s = record { count = length (leading s); size = min (value (leading s)) cap }
