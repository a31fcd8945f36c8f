-- Is what the theorems ask for needed? An example, or a law, for each hypothesis of `there_and_back`, `document-read`
-- and `written-document` shows what goes wrong without it.
use Prim.Native.Nat.{ℕ, ◌<◌}
use Prim.Native.String as S
use mathlib.Core.Path.{◌≡◌, refl, subst}
use mathlib.Core.Bool.{true, false}
use mathlib.Core.List.{List, [], ◌∷◌, ◌++◌, map}
use native.Mathlib.Omega.{arith}
use borrow.Author.Tests.{lt-leb}
use lib.ListN.{length, take}
use lib.IntN.{pos}
use Rattle.definitions.specs.Lists.{joined, starts_with, AllOf}
use Rattle.definitions.specs.Limits.{file_limit, in_i64}
use Rattle.definitions.specs.Refusal.{refusal, needed}
use Rattle.definitions.specs.Bytes.{class_of, is_at, blanks, line_ending, until_ending, min_text, bytes}
use Rattle.definitions.specs.Reader.{chain, done, fail}
use Rattle.definitions.specs.Number.{leading, value_on, ended, number, decimal_in, decimal}
use Rattle.definitions.specs.Literal.{opposite, plain, index, file_number}
use Rattle.definitions.specs.Walk.{walk, all}
use Rattle.definitions.specs.Row.{term, row_of, row, sizes}
use Rattle.definitions.specs.declared.Kind.TheVariants.{AtLeast as at_least}
use Rattle.definitions.specs.Text.{gap, gap1, digits, variable, literal, after_weight, weighted, begins_term, term_step, sum}
use Rattle.definitions.specs.Text.{operator, closing, ending, comparison, finished, constraint, min_word, min_blanks, goal, remark}
use Rattle.definitions.specs.Text.{statement_at, statement}
use Rattle.definitions.specs.Table.{table, refused, accepted, fitted, entries_of, terms_on, indexed, sort_of, row_by_row}
use Rattle.definitions.specs.File.{statements, file, reading}
use Rattle.definitions.specs.Normal.{total_by}
use Rattle.definitions.specs.Write.{flip_term, flipped, plain_term, fall, unnegated, printed, number_text, literal_text, term_text}
use Rattle.definitions.specs.Write.{spaced, apart, closed, remark_text, offset_text, comparison_text, row_text, item_text, weighs}
use Rattle.definitions.specs.Write.{unit_term, item_in, numbered, bounded, row_allowed, written_in, writing}
use Rattle.document.specs.Document as D
use Rattle.document.specs.DocumentRead.{from_one, weights_of, WithinLimits}
use Rattle.definitions.specs.TableP.{mode_from, Example, writes, text, answer_to, reading-is, writing-is}
use Rattle.definitions.specs.declared.Options.{Options}
use Rattle.definitions.proofs.Each.{right-part}
use Rattle.document.proofs.DocumentStatements.{most_of}
use Rattle.document.proofs.OneConstraint.{number_of, on, one-constraint, all_small, good-term, good-file, within-file}
use Rattle.document.proofs.OutsideDocument.{refused-outside, tilde-outside, goal-has-a-term}

-- ---- there and back

-- "within the length limit": a longer file is refused
pub longer-refused : (o : Options) (s : List ℕ) → file_limit < length s → file o s ≡ refused (refusal 1 0)
unfolding file
longer-refused o s h = rw (lt-leb (length s) file_limit h)

-- each with the answer. The tables that are read into have room for two rows and two terms
abbrev pub without_them : List Example
without_them =
    -- "whose rows the writer accepts": a constraint without terms is refused, and the line for it would not be read
    record { question = writes true 1 0 (pos 1) [] []; answer = text (refused (refusal 13 0)) }
    ∷ reading-is 1 ">= 1;\n" (refused (refusal 2 0))
    -- so are weights above M
    ∷ record {
      question = writes true 1 2 (pos 0) (pos 9_223_372_036_854_775_807 ∷ pos 1 ∷ []) (0 ∷ 2 ∷ []);
      answer = text (refused (refusal 8 0));
    }
    ∷ reading-is 1 "9223372036854775807 x1 1 x2 >= 0;\n" (refused (refusal 8 0))
    -- and a comment with an LF in its text (15)
    ∷ reading-is 1 "* a\nb\n" (refused (refusal 2 4))
    -- "the tables have room": of rows, of terms
    ∷ reading-is 1 "1 x1 >= 1;\n1 x1 >= 1;\n1 x1 >= 1;\n" (refused (refusal 9 3))
    ∷ reading-is 1 "1 x1 1 x2 1 x3 >= 1;\n" (refused (refusal 10 3))
    -- "with the same first index": what is written with first index 1 is another variable with first index 0, and
    -- refused with first index 2
    ∷ writing-is true 1 1 (pos 1) (pos 1 ∷ []) (0 ∷ []) "1 x1 >= 1;\n"
    ∷ reading-is 1 "1 x1 >= 1;\n" (accepted (row (row_of at_least (pos 1) (term (pos 1) 0 ∷ [])) ∷ []))
    ∷ reading-is 0 "1 x1 >= 1;\n" (accepted (row (row_of at_least (pos 1) (term (pos 1) 2 ∷ [])) ∷ []))
    ∷ reading-is 2 "1 x1 >= 1;\n" (refused (refusal 5 0))
    ∷ []

pub without-them : map (λ (e : Example). answer_to e.question) without_them ≡ map (λ (e : Example). e.answer) without_them
unfolding starts_with in_i64 needed class_of is_at blanks line_ending until_ending chain done fail leading value_on ended number decimal_in
    decimal opposite plain index file_number walk all sizes gap gap1 digits variable literal after_weight weighted begins_term term_step
    sum operator closing ending comparison finished constraint min_word min_blanks goal remark statement_at statement fitted entries_of
    terms_on indexed sort_of row_by_row statements file reading total_by flip_term flipped plain_term fall unnegated printed number_text
    literal_text term_text spaced apart joined remark_text offset_text comparison_text row_text item_text weighs unit_term item_in numbered
    bounded row_allowed written_in writing answer_to
without-them = refl

-- ---- the document is read (of a file above the length limit `longer-refused` says it)

-- well formed, and beyond 01's limits: a weight, the sum of the weights, an index, a bound
pub beyond : List D.File
beyond =
    one-constraint [] (on (number_of 9 "223372036854775808") 1 "") [] (number_of 0 "")
    ∷ one-constraint [] (on (number_of 9 "223372036854775807") 1 "") (on (number_of 1 "") 2 "" ∷ []) (number_of 0 "")
    ∷ one-constraint [] (on (number_of 1 "") 1 "073741825") [] (number_of 0 "")
    ∷ one-constraint [] (on (number_of 1 "") 1 "") [] (number_of 9 "223372036854775808")
    ∷ []

pub beyond-refused : map (λ (f : D.File). file from_one (D.file_text f)) beyond
    ≡ refused (refusal 3 39) ∷ refused (refusal 8 39) ∷ refused (refusal 5 39) ∷ refused (refusal 3 39) ∷ []
unfolding beyond one-constraint on number_of D.spaces D.integer_text D.term_text D.constraint_text D.comment_text D.statement_text
    D.header_of D.statements_of D.file_text joined starts_with in_i64 class_of is_at blanks line_ending until_ending chain done fail leading
    value_on ended number index walk all sizes gap gap1 digits variable literal after_weight weighted begins_term term_step sum operator
    closing ending comparison finished constraint remark statement_at statement statements file
beyond-refused = refl

pub beyond-good : AllOf D.WellFormed beyond
unfolding beyond on number_of all_small D.variable_of D.digits_value
beyond-good = (
  good-file _ _ _ (good-term _ refl refl refl refl, tt) refl,
  (
    good-file _ _ _ (good-term _ refl refl refl refl, (good-term _ refl refl refl refl, tt)) refl,
    (
      good-file _ _ _ (good-term _ refl refl refl refl, tt) refl,
      (good-file _ _ _ (good-term _ refl refl refl refl, tt) refl, tt),
    ),
  ),
)

-- within the limits, and not well formed: the variable x0, a comment with an LF, a digit that is none. (Where the order
-- or the counts are not the document's, a file is still read, since 01's text rules are wider: such a file is no file
-- of the document, below.)
pub malformed : List D.File
malformed =
    one-constraint [] (on (number_of 1 "") 0 "") [] (number_of 0 "")
    ∷ one-constraint (bytes "a\nb" ∷ []) (on (number_of 1 "") 1 "") [] (number_of 0 "")
    ∷ one-constraint [] (on (number_of 10 "") 1 "") [] (number_of 0 "")
    ∷ []

pub malformed-refused : map (λ (f : D.File). file from_one (D.file_text f)) malformed
    ≡ refused (refusal 5 39) ∷ refused (refusal 2 42) ∷ refused (refusal 2 39) ∷ []
unfolding malformed one-constraint on number_of D.spaces D.integer_text D.term_text D.constraint_text D.comment_text D.statement_text
    D.header_of D.statements_of D.file_text joined starts_with in_i64 class_of is_at blanks line_ending until_ending chain done fail leading
    value_on ended number index walk all sizes gap gap1 digits variable literal after_weight weighted begins_term term_step sum operator
    closing ending comparison finished constraint remark statement_at statement statements file
malformed-refused = refl

pub malformed-within : AllOf WithinLimits malformed
unfolding malformed one-constraint on number_of D.spaces D.integer_text D.term_text D.constraint_text D.comment_text D.statement_text
    D.header_of D.statements_of D.file_text joined D.variable_of D.digits_value D.integer_value weights_of
malformed-within = (within-file _ _ refl refl refl, (within-file _ _ refl refl refl, (within-file _ _ refl refl refl, tt)))

-- ---- what is written lies in the document: without what is asked for it would not

abbrev headed : S.String → List ℕ
headed s = bytes "* #variable= 1 #constraint= 1\n" ++ bytes s

-- a row that the writer refuses: the line of a constraint without terms is in no such file
pub no-terms-outside : (f : D.File) → D.WellFormed f → WithinLimits f → D.file_text f ≡ headed ">= 1;\n" → ⊥
unfolding starts_with class_of is_at blanks line_ending until_ending fail walk all remark statement_at statement statements file
no-terms-outside f w l e = refused-outside f w l (headed ">= 1;\n") (refusal 2 30) refl e

-- first index 1: with first index 0 there is a variable x0
pub from_zero : writing (mode_from 0 true) (table (1 ∷ []) (0 ∷ []) (1 ∷ []) (pos 1 ∷ []) (pos 1 ∷ []) (0 ∷ [])) [] 100
    ≡ accepted (bytes "1 x0 >= 1;\n")
unfolding in_i64 sizes decimal_in decimal opposite plain file_number entries_of terms_on indexed sort_of row_by_row total_by flip_term flipped
    plain_term fall unnegated printed number_text literal_text term_text spaced joined comparison_text row_text item_text weighs item_in
    numbered bounded row_allowed written_in writing
from_zero = refl

pub from-zero-outside : (f : D.File) → D.WellFormed f → WithinLimits f → D.file_text f ≡ headed "1 x0 >= 1;\n" → ⊥
unfolding starts_with in_i64 class_of is_at blanks line_ending until_ending chain done leading value_on ended number index walk all gap
    gap1 digits variable literal after_weight weighted begins_term term_step sum constraint remark statement_at statement statements
    file
from-zero-outside f w l e = refused-outside f w l (headed "1 x0 >= 1;\n") (refusal 5 30) refl e

-- no-negated mode: in the other a negated literal is written with `~`
pub negated-written : writing (mode_from 1 false) (table (1 ∷ []) (0 ∷ []) (1 ∷ []) (pos 1 ∷ []) (pos 1 ∷ []) (1 ∷ [])) [] 100
    ≡ accepted (bytes "1 ~x1 >= 1;\n")
unfolding in_i64 sizes decimal_in decimal opposite plain file_number entries_of terms_on indexed sort_of row_by_row total_by flip_term flipped
    plain_term fall unnegated printed number_text literal_text term_text spaced joined comparison_text row_text item_text weighs item_in
    numbered bounded row_allowed written_in writing
negated-written = refl

pub negated-outside : (f : D.File) → D.WellFormed f → D.file_text f ≡ headed "1 ~x1 >= 1;\n" → ⊥
negated-outside = tilde-outside

-- the header: every file of the document begins with its words
pub header-first : (f : D.File) → take 13 (D.file_text f) ≡ bytes "* #variable= "
unfolding D.file_text D.statements_of D.statement_text D.comment_text D.header_of joined
header-first f = refl

-- its numbers: a variable beyond N, or another count than M, is not well formed
pub beyond-n : (f : D.File) (c : D.Constraint) (xs : List D.Statement) → f.body ≡ D.constraint c ∷ xs
    → most_of f < D.variable_of c.sum.first → D.WellFormed f → ⊥
beyond-n f c xs e h w = omega (arith, (subst (AllOf (D.GoodStatement (most_of f))) e w.body).0.terms.0.high)

pub other-count : (f : D.File) → (D.unsigned_value f.constraints ≡ D.constraint_count f.body → ⊥) → D.WellFormed f → ⊥
other-count f n w = n w.counted

-- "at most one objective", and before the constraints
pub two-objectives : (f : D.File) → length f.objective ≡ 2 → D.WellFormed f → ⊥
two-objectives f e w = omega (arith, w.single)

pub late-objective : (f : D.File) (xs : List D.Statement) (g : D.Objective) (ys : List D.Statement) → f.body ≡ xs ++ (D.goal g ∷ ys)
    → D.WellFormed f → ⊥
late-objective f xs g ys e w =
    (right-part (D.GoodStatement (most_of f)) xs (D.goal g ∷ ys) (subst (AllOf (D.GoodStatement (most_of f))) e w.body)).0

-- an objective with terms: without, no number of spaces before its `;` makes it one of the document
pub no-empty-objective : (g : D.Objective) (n : ℕ) → D.objective_text g ≡ min_text ++ (D.spaces n ++ closed) → ⊥
no-empty-objective = goal-has-a-term
