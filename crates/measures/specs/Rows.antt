-- One row in the code's words: what the first walk says of it.
use Rattle.std.specs.Prelude.{ℕ, ◌+◌, Bool, cond, not, ◌&&◌, List, ◌++◌, eqb, ℤ, length, Result, Ok, Err}
use Rattle.definitions.specs.Refusal.{Checked, refuse, accept, needed}
use Rattle.definitions.specs.Bytes.{min_text}
use Rattle.definitions.specs.Row.{Row}
use Rattle.definitions.specs.Table.{indexed}
use Rattle.definitions.specs.Write.{closed, offset_text, comparison_text, Item, item_text, weighs, row_allowed}
use Rattle.definitions.specs.Back.{is_goal, offset_line, lines_back, terms_back}
use Rattle.definitions.specs.declared.Fault.{Fault}
use Rattle.definitions.specs.declared.Mode.{Mode}
use Rattle.definitions.specs.declared.Kind.{Kind}
use Rattle.printed.specs.declared.kinds.Shape.{Shape}
use Rattle.printed.specs.Bounds.{printed_bound}
use Rattle.printed.specs.Rows.{operator_text}
use Rattle.measures.specs.declared.terms.Tally.{Tally}
use Rattle.measures.specs.declared.rows.Extent.{Extent}

-- what an item comes to: the length of its text, up to the limit of a needed number, and the lines and terms that come
-- back of it
abbrev pub extent_of : Mode → Item → Extent
extent_of m i = record { length = needed (length (item_text m i)); lines = lines_back m i; terms = terms_back i }

abbrev pub measured : Mode → Checked Item → Checked Extent
measured m (refuse n) = refuse n
measured m (accept i) = accept (extent_of m i)

unfoldable pub row_measured : Mode → Row → Checked Extent
row_measured m r = cond (indexed r.terms && weighs r.terms) (measured m (row_allowed m r)) (refuse 11)

abbrev pub said_measured : Result Extent Fault → Checked Extent
said_measured (Ok x) = accept x
said_measured (Err f) = refuse f.number

-- ---- what stands around the terms

abbrev pub frame_text : Kind → ℤ → List ℕ
frame_text k z = cond (is_goal k) (min_text ++ (closed ++ offset_text z)) (comparison_text (operator_text k) z)

abbrev pub frame_lines : Kind → ℤ → ℕ
frame_lines k z = 1 + offset_line k z

-- ---- the order of refusals, by what is counted of the terms

abbrev pub lacks_terms : Kind → ℕ → Bool
lacks_terms k n = not (is_goal k) && eqb n 0

-- of n terms, whose texts are of a length
abbrev pub framed : Kind → ℕ → ℕ → Checked ℤ → Checked Extent
framed k long n (refuse e) = refuse e
framed k long n (accept z) = accept (record { length = needed (long + length (frame_text k z)); lines = frame_lines k z; terms = n })

unfoldable pub counted_length : Shape → ℕ → Tally → Checked Extent
counted_length s n t =
    cond (lacks_terms s.kind n) (refuse 13)
    (cond t.numbered (framed s.kind t.length n (printed_bound s.kind s.bound t.sums.total t.sums.fall))
    (refuse 5))
