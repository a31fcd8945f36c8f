-- How long the fields of a term and the line of a row are, a line's length up to the limit of a needed number.
use Rattle.std.specs.Prelude.{ℕ, ◌+◌, cond, eqb, ℤ, length, Option, Some, None}
use Rattle.definitions.specs.Refusal.{needed, Checked, refuse, accept}
use Rattle.definitions.specs.Number.{integer_text}
use Rattle.definitions.specs.Literal.{index_of, file_number}
use Rattle.definitions.specs.Row.{Term}
use Rattle.definitions.specs.Write.{is_accepted}
use Rattle.definitions.specs.House.{term_fields}
use Rattle.columns.specs.Kinds.{read_kind}
use Rattle.house_lengths.specs.Words.{comment_line, word_field}

-- of a term: the length of its fields; 5: "file number beyond u32"
abbrev pub term_length : ℕ → Term → Checked ℕ
term_length first t = cond (is_accepted (file_number first (index_of t.code))) (accept (length (term_fields first t))) (refuse 5)

-- what the answer says. 5: "file number beyond u32"
abbrev pub said_term_length : Option ℕ → Checked ℕ
said_term_length (Some n) = accept n
said_term_length None = refuse 5

-- the length of its line, of a row with this number of a kind, this count and this bound, whose terms' fields have the
-- length `terms`
abbrev pub line_length : ℕ → ℕ → ℤ → ℕ → ℕ
line_length kind count bound terms =
    cond (eqb kind 0) (needed (length (comment_line count)))
    (needed (terms + (length (word_field (read_kind kind)) + (length (integer_text bound) + 1))))
