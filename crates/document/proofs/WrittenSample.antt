-- Is there a table in the document's order? One, with what is written of it: what WrittenDocument.antt says is not
-- empty.
use Prim.Native.Nat.{ℕ}
use mathlib.Core.Path.{◌≡◌, refl}
use mathlib.Core.List.{List, [], ◌∷◌}
use native.Mathlib.Omega.{arith}
use lib.IntN.{pos}
use Rattle.definitions.specs.Lists.{joined}
use Rattle.definitions.specs.Limits.{in_i64}
use Rattle.definitions.specs.Number.{decimal_in, decimal}
use Rattle.definitions.specs.Literal.{opposite, plain, file_number}
use Rattle.definitions.specs.Row.{term, Row, row_of, sizes}
use Rattle.definitions.specs.declared.Kind.TheVariants.{AtMost as at_most, Objective as objective}
use Rattle.definitions.specs.Table.{Table, table, accepted, entries_of, entries, terms_on, indexed, sort_of, row_by_row}
use Rattle.definitions.specs.Normal.{total_by}
use Rattle.definitions.specs.Write.{flip_term, flipped, plain_term, fall, unnegated, printed, number_text, literal_text, term_text}
use Rattle.definitions.specs.Write.{spaced, apart, remark_text, offset_text, comparison_text, row_text, Item, say, line, item_text}
use Rattle.definitions.specs.Write.{weighs, one_line, item_in, numbered, bounded, row_allowed, written_in, writing}
use Rattle.definitions.specs.Back.{rows_asked}
use Rattle.document.specs.DocumentWritten.{for_document, constraints_asked, header_said, InOrder, WrittenDocument}
use Rattle.definitions.specs.Bytes.{bytes}
use Rattle.document.proofs.WrittenDocument.{written-document}

-- a header, an objective, a constraint
pub sample_table : Table
sample_table =
    table (0 ∷ 4 ∷ 2 ∷ []) (0 ∷ 0 ∷ 1 ∷ []) (27 ∷ 1 ∷ 2 ∷ []) (pos 0 ∷ pos 0 ∷ pos 4 ∷ []) (pos 4 ∷ pos 3 ∷ pos 2 ∷ []) (1 ∷ 0 ∷ 2 ∷ [])

pub sample_comments : List ℕ
sample_comments = bytes "#variable= 2 #constraint= 1"

-- 4 ~x1
pub aim : Row
aim = row_of objective (pos 0) (term (pos 4) 1 ∷ [])

-- 3 x1 + 2 x2 at most 4
pub limit : Row
limit = row_of at_most (pos 4) (term (pos 3) 0 ∷ term (pos 2) 2 ∷ [])

pub sample_items : List Item
sample_items = say sample_comments ∷ line aim ∷ line limit ∷ []

pub sample-asked : row_by_row (written_in for_document sample_table sample_comments) 0 (entries sample_table) ≡ accepted sample_items
unfolding sample_table sample_comments sample_items aim limit in_i64 sizes opposite plain file_number entries_of terms_on indexed sort_of
    row_by_row total_by flip_term flipped plain_term fall unnegated printed weighs one_line item_in numbered bounded row_allowed written_in
sample-asked = refl

pub sample_text : List ℕ
sample_text = bytes "* #variable= 2 #constraint= 1\nmin: -4 x1;\n* objective offset for previous objective: 4\n-3 x1 -2 x2 >= -4;\n"

pub sample-written : writing for_document sample_table sample_comments 120 ≡ accepted sample_text
unfolding sample_table sample_comments sample_text in_i64 sizes decimal_in decimal opposite plain file_number entries_of terms_on indexed
    sort_of row_by_row total_by flip_term flipped plain_term fall unnegated printed number_text literal_text term_text spaced apart joined
    remark_text offset_text comparison_text row_text item_text weighs one_line item_in numbered bounded row_allowed written_in writing
sample-written = refl

pub sample-in-order : InOrder sample_items
unfolding sample_comments sample_items aim limit header_said decimal decimal_in rows_asked constraints_asked
sample-in-order = record {
  variables = 2;
  comments = [];
  objectives = aim ∷ [];
  body = line limit ∷ [];
  order = refl;
  named = ((omega arith, tt), ((omega arith, (omega arith, tt)), tt));
  goals = (record { kind = refl; some = omega arith }, tt);
  single = omega arith;
  behind = (refl, tt);
}

pub sample-document : WrittenDocument sample-in-order sample_text
sample-document = written-document sample_table sample_comments 120 sample_items sample_text sample-asked sample-written sample-in-order
