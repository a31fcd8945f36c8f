-- What is read of a whole file, into lent columns (01)? "Reader's order: 1; then statement by statement, left to right
-- 2 to 7 as the text is met; 8 after the ending of its statement; 9, then 10, once the whole file has read well."
use Rattle.std.specs.Prelude.{ℕ, cond, List, leb, length}
use Rattle.definitions.specs.Limits.{file_limit}
use Rattle.definitions.specs.Refusal.{refusal}
use Rattle.definitions.specs.Walk.{Walked, broken, items, all}
use Rattle.definitions.specs.Row.{Line}
use Rattle.definitions.specs.Text.{statement, in_file}
use Rattle.definitions.specs.declared.Options.{Options}
use Rattle.definitions.specs.Table.{Table, Outcome, refused, accepted, fitted}

-- "the first index (an option, any u32)"
abbrev pub first_at : ℕ → Options
first_at first = record { first = first }

-- the statements up to the end of the file: a file that reads well is read whole
abbrev pub lines_of : Walked Line → Outcome (List Line)
lines_of (broken r) = refused r
lines_of (items ls n) = accepted ls

unfoldable pub statements : Options → List ℕ → Walked Line
statements o s = all (statement o) in_file s

-- 1: "file above the limit", place 0
unfoldable pub file : Options → List ℕ → Outcome (List Line)
file o s = cond (leb (length s) file_limit) (lines_of (statements o s)) (refused (refusal 1 0))

unfoldable pub reading : Options → List ℕ → Table → Outcome (List Line)
reading o s t = fitted t (file o s)
