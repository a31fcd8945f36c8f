-- One row of the table in the code's words, comments too: what the first walk says of it.
use Rattle.std.specs.Prelude.{ℕ, ◌+◌, cond, List, leb, length, take, drop}
use Rattle.definitions.specs.Refusal.{Checked, refuse, accept, needed}
use Rattle.definitions.specs.Table.{Table, term_room}
use Rattle.definitions.specs.Write.{one_line}
use Rattle.definitions.specs.declared.Entry.{Entry}
use Rattle.definitions.specs.declared.Mode.{Mode}
use Rattle.printed.specs.declared.kinds.Shape.{Shape}
use Rattle.printed.specs.Rows.{row_on}
use Rattle.measures.specs.declared.rows.Extent.{Extent}
use Rattle.measures.specs.Rows.{row_measured}

abbrev pub comment_measured : ℕ → ℕ → List ℕ → Checked Extent
comment_measured f n text =
    cond (leb (f + n) (length text))
    (cond (one_line (take n (drop f text))) (accept (record { length = needed (n + 3); lines = 1; terms = 0 })) (refuse 15)) (refuse 11)

abbrev pub part_measured : Shape → Entry → Table → Mode → Checked Extent
part_measured s e t m =
    cond (leb (e.first + e.count) (term_room t))
    (row_measured m (row_on s (take e.count (drop e.first t.weights)) (take e.count (drop e.first t.literals)))) (refuse 11)
