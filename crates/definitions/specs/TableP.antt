-- Which examples does 01 mark P ("Examples on each side")? One table: what is asked, and 01's answer.
-- proofs/EveryExample.antt has the one statement over it.
use Rattle.std.specs.Prelude.{ℕ, Bool, true, false, List, [], ◌∷◌, ℤ, pos, negsuc}
use Prim.Native.String as S
use Rattle.definitions.specs.Limits.{least}
use Rattle.definitions.specs.Bytes.{bytes}
use Rattle.definitions.specs.Refusal.{refusal}
use Rattle.definitions.specs.Row.{term, at_least, at_most, row_of, Line, row}
use Rattle.definitions.specs.Table.{Table, table, Outcome, refused, accepted}
use Rattle.definitions.specs.declared.Mode.{Mode}
use Rattle.definitions.specs.File.{first_at, reading}
use Rattle.definitions.specs.Write.{writing}

abbrev pub mode_from : ℕ → Bool → Mode
mode_from first no_negated = record { first = first; plain = no_negated }

-- columns with room for every example
abbrev pub roomy : Table
roomy = table (0 ∷ 0 ∷ []) (0 ∷ 0 ∷ []) (0 ∷ 0 ∷ []) (pos 0 ∷ pos 0 ∷ []) (pos 0 ∷ pos 0 ∷ []) (0 ∷ 0 ∷ [])

-- "file or row", by the first index; a row is written in a mode, as a table of one row of the kind, the bound, the
-- weights and the literals
pub data Question : Type 0 where
  reads : ℕ → S.String → Question
  writes : Bool → ℕ → ℕ → ℤ → List ℤ → List ℕ → Question

pub data Answer : Type 0 where
  lines : Outcome (List Line) → Answer
  text : Outcome (List ℕ) → Answer

unfoldable pub answer_to : Question → Answer
answer_to (reads first s) = lines (reading (first_at first) (bytes s) roomy)
answer_to (writes no_negated k n b ws ls) = text (writing (mode_from 1 no_negated) (table (k ∷ []) (0 ∷ []) (n ∷ []) (b ∷ []) ws ls) [] 100)

pub record Example : Type 0 where
  pub question : Question
  pub answer : Answer

abbrev pub reading-is : ℕ → S.String → Outcome (List Line) → Example
reading-is first s o = record { question = reads first s; answer = lines o }

abbrev pub writing-is : Bool → ℕ → ℕ → ℤ → List ℤ → List ℕ → S.String → Example
writing-is m k n b ws ls s = record { question = writes m k n b ws ls; answer = text (accepted (bytes s)) }

abbrev pub table_p : List Example
table_p =
    -- P1: empty: no rows
    reading-is 1 "" (accepted [])
    -- P2: at least 1
    ∷ reading-is 1 "1 x1 >= 1" (accepted (row (row_of at_least (pos 1) (term (pos 1) 0 ∷ [])) ∷ []))
    -- P3: two rows
    ∷ reading-is 1 "1 x1>=1;-1 ~x2<=+3;"
    (accepted (row (row_of at_least (pos 1) (term (pos 1) 0 ∷ [])) ∷ row (row_of at_most (pos 3) (term (negsuc 0) 3 ∷ [])) ∷ []))
    -- P4: 8
    ∷ reading-is 1 "1 x1 < -9223372036854775808;" (refused (refusal 8 0))
    -- P5: at most -9223372036854775808
    ∷ reading-is 1 "1 x1 < -9223372036854775807;" (accepted (row (row_of at_most least (term (pos 1) 0 ∷ [])) ∷ []))
    -- P6: 5 (first index 0: accepted)
    ∷ reading-is 1 "1 x0 >= 1;" (refused (refusal 5 0))
    ∷ reading-is 0 "1 x0 >= 1;" (accepted (row (row_of at_least (pos 1) (term (pos 1) 0 ∷ [])) ∷ []))
    -- P7: 2
    ∷ reading-is 1 ">= 1;" (refused (refusal 2 0))
    -- P8: 2 at 11
    ∷ reading-is 1 "1 x1 >= 1;\n\n1 x2 >= 1;" (refused (refusal 2 11))
    -- P9: 8
    ∷ reading-is 1 "9223372036854775807 x1 1 x2 >= 0;" (refused (refusal 8 0))
    -- P10: 3 x1 + 2 x2 at most 4
    ∷ writing-is true 2 2 (pos 4) (pos 3 ∷ pos 2 ∷ []) (0 ∷ 2 ∷ []) "-3 x1 -2 x2 >= -4;\n"
    ∷ writing-is false 2 2 (pos 4) (pos 3 ∷ pos 2 ∷ []) (0 ∷ 2 ∷ []) "3 ~x1 2 ~x2 >= 1;\n"
    -- P11: clause x1, ~x2
    ∷ writing-is true 5 2 (pos 0) (pos 0 ∷ pos 0 ∷ []) (0 ∷ 3 ∷ []) "1 x1 -1 x2 >= 0;\n"
    ∷ writing-is false 5 2 (pos 0) (pos 0 ∷ pos 0 ∷ []) (0 ∷ 3 ∷ []) "1 x1 1 ~x2 >= 1;\n"
    -- P12: objective 4 ~x1, 1 x3
    ∷ writing-is true 4 2 (pos 0) (pos 4 ∷ pos 1 ∷ []) (1 ∷ 4 ∷ []) "min: -4 x1 1 x3;\n* objective offset for previous objective: 4\n"
    ∷ []
