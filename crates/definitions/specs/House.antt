-- Which lines does the listing program print (01, "Examples on each side")? "House lines are parted by tabs"; "The
-- first line is rows, terms, first index; `c` gives the text's length; equal is `eq`. A refusal prints `refused`,
-- number, place alone."
use Rattle.std.specs.Prelude.{ℕ, cond, List, [], ◌∷◌, ◌++◌, length, take}
use Rattle.definitions.specs.Lists.{joined}
use Rattle.definitions.specs.Refusal.{Refusal, Checked, refuse, accept}
use Rattle.definitions.specs.Bytes.{bytes, tab, lf}
use Rattle.definitions.specs.Number.{decimal, integer_text}
use Rattle.definitions.specs.Row.{Term, Kind, at_least, at_most, equal, objective, Line, comment, row}
use Rattle.definitions.specs.Table.{Table, Outcome, refused, accepted, all_terms, Entry, entries, and_then, row_by_row, line_in}
use Rattle.definitions.specs.Write.{literal_text, numbered, fitted_text}

-- a field behind another
abbrev pub field : List ℕ → List ℕ
field s = tab ∷ s

abbrev pub kind_word : Kind → List ℕ
kind_word at_least = bytes "ge"
kind_word at_most = bytes "le"
kind_word equal = bytes "eq"
kind_word objective = bytes "min"

unfoldable pub term_fields : ℕ → Term → List ℕ
term_fields first t = field (integer_text t.weight) ++ field (literal_text first t.code)

unfoldable pub house_line : ℕ → Line → List ℕ
house_line first (comment f n b) = bytes "c" ++ (field (decimal n) ++ (lf ∷ []))
house_line first (row r) = kind_word r.kind ++ (field (integer_text r.bound) ++ (joined (term_fields first) r.terms ++ (lf ∷ [])))

unfoldable pub head_line : ℕ → List Line → List ℕ
head_line first ls =
    bytes "opb" ++ (field (decimal (length ls)) ++ (field (decimal (length (all_terms ls))) ++ (field (decimal first) ++ (lf ∷ []))))

unfoldable pub refused_line : Refusal → List ℕ
refused_line r = bytes "refused" ++ (field (decimal r.number) ++ (field (decimal r.place) ++ (lf ∷ [])))

unfoldable pub listing : ℕ → Outcome (List Line) → List ℕ
listing first (refused r) = refused_line r
listing first (accepted ls) = head_line first ls ++ joined (house_line first) ls

-- ---- the house lines of the first n rows of a table, into an output of so many bytes: row by row 11, 5; then 14,
-- where the lines do not fit

-- 5: "file number beyond u32"
abbrev pub listed_line : ℕ → Line → Checked Line
listed_line first (comment f n b) = accept (comment f n b)
listed_line first (row r) = cond (numbered first r.terms) (accept (row r)) (refuse 5)

-- 11: "row that no table may hold", then 5
unfoldable pub listed_entry : ℕ → Table → Entry → Checked Line
listed_entry first t e = and_then (line_in t e) (listed_line first)

abbrev pub listed_in : ℕ → ℕ → Outcome (List Line) → Outcome (List ℕ)
listed_in first room (refused r) = refused r
listed_in first room (accepted ls) = fitted_text room (listing first (accepted ls))

unfoldable pub listing_table : ℕ → ℕ → Table → ℕ → Outcome (List ℕ)
listing_table first n t room = listed_in first room (row_by_row (listed_entry first t) 0 (take n (entries t)))
