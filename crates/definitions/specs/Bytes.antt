-- Which class has a byte (01, "The text")? "Every byte belongs to one class: digit, sign, space or tab, CR, LF, `;`,
-- `*`, `~`, `x`, `m`, operator byte, other." And how are blanks, line endings and texts said in bytes?
use Rattle.std.specs.Prelude.{ℕ, zero, suc, Bool, true, false, cond, ◌&&◌, ◌||◌, List, [], ◌∷◌, leb, eqb}
use Prim.Native.Char.{code}
use Prim.Native.String as S
use Rattle.definitions.specs.declared.Class.{Class}
use Rattle.definitions.specs.declared.Class.TheVariants.{Digit, Sign, Blank, Cr, Lf, Semicolon, Star, Tilde, LetterX}
use Rattle.definitions.specs.declared.Class.TheVariants.{LetterM, Operator, Other}
use Rattle.definitions.specs.declared.Beginning.{Beginning}
use Rattle.definitions.specs.declared.Beginning.TheVariants.{Comment, Objective, Constraint, Nothing}

-- the bytes of a text
abbrev pub bytes : S.String → List ℕ
bytes S.[] = []
bytes (S.◌∷◌ c s) = code c ∷ bytes s

abbrev pub tab : ℕ
tab = 9

abbrev pub lf : ℕ
lf = 10

abbrev pub cr : ℕ
cr = 13

abbrev pub space : ℕ
space = 32

abbrev pub star : ℕ
star = 42

abbrev pub plus : ℕ
plus = 43

abbrev pub minus : ℕ
minus = 45

abbrev pub colon : ℕ
colon = 58

abbrev pub semicolon : ℕ
semicolon = 59

abbrev pub less : ℕ
less = 60

abbrev pub equals : ℕ
equals = 61

abbrev pub greater : ℕ
greater = 62

abbrev pub letter_m : ℕ
letter_m = 109

abbrev pub letter_x : ℕ
letter_x = 120

abbrev pub tilde : ℕ
tilde = 126

abbrev pub min_text : List ℕ
min_text = bytes "min:"

-- `0` to `9`
abbrev pub is_digit : ℕ → Bool
is_digit b = leb 48 b && leb b 57

abbrev pub is_sign : ℕ → Bool
is_sign b = eqb b plus || eqb b minus

-- "'Blank' is space or tab"
abbrev pub is_blank : ℕ → Bool
is_blank b = eqb b space || eqb b tab

-- `<`, `=`, `>`
abbrev pub is_operator : ℕ → Bool
is_operator b = leb less b && leb b greater

unfoldable pub class_of : ℕ → Class
class_of b =
    cond (is_digit b) Digit
    (cond (is_sign b) Sign
    (cond (is_blank b) Blank
    (cond (eqb b cr) Cr
    (cond (eqb b lf) Lf
    (cond (eqb b semicolon) Semicolon
    (cond (eqb b star) Star
    (cond (eqb b tilde) Tilde
    (cond (eqb b letter_x) LetterX
    (cond (eqb b letter_m) LetterM
    (cond (is_operator b) Operator Other))))))))))

-- "`*`: comment", "`min:` ...: objective", "digit, `+`, `-`: constraint"; "a statement starts with none of its
-- beginnings": refusal 2
abbrev pub begins : Class → Beginning
begins Digit = Constraint
begins Sign = Constraint
begins Blank = Nothing
begins Cr = Nothing
begins Lf = Nothing
begins Semicolon = Nothing
begins Star = Comment
begins Tilde = Nothing
begins LetterX = Nothing
begins LetterM = Objective
begins Operator = Nothing
begins Other = Nothing

-- whether the byte b stands at the front
unfoldable pub is_at : ℕ → List ℕ → Bool
is_at b [] = false
is_at b (c ∷ s) = eqb c b

-- how many blanks stand at the front
unfoldable pub blanks : List ℕ → ℕ
blanks [] = zero
blanks (b ∷ s) = elim (is_blank b) [ true ↦ suc (blanks s) | false ↦ zero ]

-- "a line ending is LF or CR LF": how many bytes of one stand at the front, 0 where none does
unfoldable pub line_ending : List ℕ → ℕ
line_ending [] = 0
line_ending (b ∷ s) = cond (eqb b lf) 1 (cond (eqb b cr && is_at lf s) 2 0)

-- "to the line ending or file end, any bytes": how many bytes stand before it
unfoldable pub until_ending : List ℕ → ℕ
until_ending [] = zero
until_ending (b ∷ s) = elim (line_ending (b ∷ s)) [ zero ↦ suc (until_ending s) | suc k ↦ zero ]
