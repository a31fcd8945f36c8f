-- Has every example that 01 marks P 01's answer? One statement over the one table.
use mathlib.Core.Path.{◌≡◌, refl}
use mathlib.Core.List.{map}
use Rattle.definitions.specs.Lists.{joined, starts_with}
use Rattle.definitions.specs.Limits.{in_i64}
use Rattle.definitions.specs.Refusal.{needed}
use Rattle.definitions.specs.Bytes.{class_of, is_at, blanks, line_ending, until_ending}
use Rattle.definitions.specs.Reader.{chain, done, fail}
use Rattle.definitions.specs.Number.{leading, value_on, ended, number, decimal_in, decimal}
use Rattle.definitions.specs.Literal.{opposite, plain, index, file_number}
use Rattle.definitions.specs.Walk.{walk, all}
use Rattle.definitions.specs.Row.{sizes}
use Rattle.definitions.specs.Text.{gap, gap1, digits, variable, literal, after_weight, weighted, begins_term, term_step, sum}
use Rattle.definitions.specs.Text.{operator, closing, ending, comparison, finished, constraint, min_word, min_blanks, goal, remark}
use Rattle.definitions.specs.Text.{statement_at, statement}
use Rattle.definitions.specs.Table.{fitted, entries_of, terms_on, indexed, sort_of, row_by_row}
use Rattle.definitions.specs.File.{statements, file, reading}
use Rattle.definitions.specs.Normal.{total_by}
use Rattle.definitions.specs.Write.{flip_term, flipped, plain_term, fall, unnegated, printed, number_text, literal_text, term_text}
use Rattle.definitions.specs.Write.{spaced, apart, remark_text, offset_text, comparison_text, row_text, item_text, weighs}
use Rattle.definitions.specs.Write.{unit_term, item_in, numbered, bounded, row_allowed, written_in, writing}
use Rattle.definitions.specs.TableP.{Example, answer_to, table_p}

-- the definitions' answers are 01's
pub every-example : map (λ (e : Example). answer_to e.question) table_p ≡ map (λ (e : Example). e.answer) table_p
unfolding starts_with in_i64 needed class_of is_at blanks line_ending until_ending chain done fail leading value_on ended number decimal_in
    decimal opposite plain index file_number walk all sizes gap gap1 digits variable literal after_weight weighted begins_term term_step
    sum operator closing ending comparison finished constraint min_word min_blanks goal remark statement_at statement fitted entries_of
    terms_on indexed sort_of row_by_row statements file reading total_by flip_term flipped plain_term fall unnegated printed number_text
    literal_text term_text spaced apart joined remark_text offset_text comparison_text row_text item_text weighs unit_term item_in numbered
    bounded row_allowed written_in writing answer_to
every-example = refl
