-- What writing rows and reading the written part again answers; and what is said of it before anything is written.
use Rattle.std.specs.Prelude.{ℕ, cond, List, leb, length, Result, Ok, Err}
use Rattle.definitions.specs.Limits.{file_limit}
use Rattle.definitions.specs.Refusal.{refusal}
use Rattle.definitions.specs.declared.Refusal.{Refusal}
use Rattle.definitions.specs.Table.{Table, Outcome, refused, accepted, totals_of, counted}
use Rattle.definitions.specs.declared.Totals.{Totals}
use Rattle.definitions.specs.File.{reading}
use Rattle.definitions.specs.Back.{options_of}
use Rattle.definitions.specs.declared.Mode.{Mode}
use Rattle.measures.specs.declared.rows.Extent.{Extent}
use Rattle.foreseen.specs.declared.Back.{Back}
use Rattle.foreseen.specs.declared.NotBack.{NotBack}
use Rattle.foreseen.specs.declared.NotBack.TheVariants.{NotWritten, NotRead}

-- the writer's refusal, or what reading the text answers, with the text's length
pub data Return : Type 0 where
  unwritten : Refusal → Return
  unread : Refusal → Return
  back : ℕ → Totals → Return

abbrev pub said_returned : Result Back NotBack → Return
said_returned (Err (NotWritten r)) = unwritten r
said_returned (Err (NotRead r)) = unread r
said_returned (Ok b) = back b.length (totals_of b.rows b.terms)

abbrev pub read_back : List ℕ → Outcome Totals → Return
read_back s (refused r) = unread r
read_back s (accepted n) = back (length s) n

abbrev pub returning : Mode → Table → Outcome (List ℕ) → Return
returning m new (refused r) = unwritten r
returning m new (accepted s) = read_back s (counted (reading (options_of m) s new))

-- what is said before anything is written, by what the rows come to and the room there is: 14 of the writer, then the
-- reader's 1, 9 and 10
unfoldable pub foretold : Extent → ℕ → ℕ → ℕ → Return
foretold x room rows terms =
    cond (leb x.length room)
    (cond (leb x.length file_limit)
    (cond (leb x.lines rows)
    (cond (leb x.terms terms) (back x.length (totals_of x.lines x.terms)) (unread (refusal 10 x.terms)))
    (unread (refusal 9 x.lines)))
    (unread (refusal 1 0)))
    (unwritten (refusal 14 x.length))
