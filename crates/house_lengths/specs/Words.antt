-- The texts of house lines in the words of the code: a kind's word, the head, a comment's line, the fields of a term by
-- its file number. proofs/ ties each to the definitions.
use Rattle.std.specs.Prelude.{ℕ, Bool, true, false, List, [], ◌∷◌, ◌++◌, ℤ}
use Rattle.definitions.specs.Bytes.{tab, lf, letter_x, tilde}
use Rattle.definitions.specs.Number.{decimal, integer_text}
use Rattle.definitions.specs.declared.Kind.{Kind}
use Rattle.definitions.specs.House.{field, kind_word}

-- the word of a kind, and the tab behind it
abbrev pub word_field : Kind → List ℕ
word_field k = kind_word k ++ (tab ∷ [])

abbrev pub comment_line : ℕ → List ℕ
comment_line n = 99 ∷ (field (decimal n) ++ (lf ∷ []))

-- of rows, terms, first index
abbrev pub head_text : ℕ → ℕ → ℕ → List ℕ
head_text rows terms first =
    (111 ∷ 112 ∷ 98 ∷ []) ++ (field (decimal rows) ++ (field (decimal terms) ++ (field (decimal first) ++ (lf ∷ []))))

-- a literal by its sign and its file number
abbrev pub literal_words : Bool → ℕ → List ℕ
literal_words true n = tilde ∷ letter_x ∷ decimal n
literal_words false n = letter_x ∷ decimal n

-- the fields of a term, the literal by its sign and its file number
abbrev pub term_words : ℤ → Bool → ℕ → List ℕ
term_words w b n = field (integer_text w) ++ field (literal_words b n)
