-- What is one statement (01, "The text")? The one at the front of the rest of a file, with the refusals 2 to 8 in the
-- order in which the text is met. Where 01 has a rule, the comment has its sentence.
use Rattle.std.specs.Prelude.{ℕ, zero, suc, ◌+◌, ◌-◌, Bool, true, false, cond, ◌&&◌, ◌||◌, List, [], ◌∷◌, leb, eqb, length, drop, ℤ, pos, ◌+ℤ◌, ◌-ℤ◌}
use Rattle.definitions.specs.Lists.{starts_with}
use Rattle.definitions.specs.Limits.{weight_limit, in_i64}
use Rattle.definitions.specs.Refusal.{fault, fault_at, fault_of, Checked, refuse, accept}
use Rattle.definitions.specs.Bytes.{is_sign, is_digit, is_at, blanks, line_ending, until_ending, begins, class_of, min_text, space}
use Rattle.definitions.specs.Bytes.{minus, semicolon, less, equals, greater, letter_x, tilde}
use Rattle.definitions.specs.Reader.{Got, none, got, Reader, more, chain, done, fail}
use Rattle.definitions.specs.Number.{leading, value, number}
use Rattle.definitions.specs.Literal.{index, code_of}
use Rattle.definitions.specs.Walk.{Step, stop, bad, item, Walked, broken, items, all, anywhere}
use Rattle.definitions.specs.Row.{Term, term, Kind, at_least, at_most, equal, objective, Row, row_of, Line, comment, row, sizes}
use Rattle.definitions.specs.declared.Options.{Options}
use Rattle.definitions.specs.declared.OpbOperator.{OpbOperator}
use Rattle.definitions.specs.declared.OpbOperator.TheVariants.{LE, GE, LT, GT, EQ}
use Rattle.definitions.specs.declared.Beginning.{Beginning}
use Rattle.definitions.specs.declared.Beginning.TheVariants.{Comment, Objective, Constraint, Nothing}

-- ---- blanks, literals, terms

-- blanks, if any
unfoldable pub gap : Reader ℕ
gap s = got (blanks s) (blanks s)

-- "one or more blanks"; 4: "no blank after a weight"
abbrev pub some_blanks : ℕ → Got ℕ
some_blanks zero = none (fault 4)
some_blanks (suc k) = got (suc k) (suc k)

unfoldable pub gap1 : Reader ℕ
gap1 s = some_blanks (blanks s)

abbrev pub code_by : Bool → ℕ → Checked ℕ → Got ℕ
code_by negative n (refuse e) = none (fault e)
code_by negative n (accept v) = got (code_of negative v) n

-- the digits of a file number; 4: "no literal there"; 5 as `index` says
unfoldable pub digits : Options → Bool → Reader ℕ
digits o negative s =
    let ds = leading s in
    cond (eqb (length ds) 0) (none (fault 4)) (code_by negative (length ds) (index o.first (value ds)))

-- "`x`, digits"
unfoldable pub variable : Options → Bool → Reader ℕ
variable o negative [] = none (fault 4)
variable o negative (b ∷ s) = cond (eqb b letter_x) (more 1 (digits o negative s)) (none (fault 4))

-- "optional `~` or `-` (negation), `x`, digits"
unfoldable pub literal : Options → Reader ℕ
literal o [] = none (fault 4)
literal o (b ∷ s) = cond (eqb b tilde || eqb b minus) (more 1 (variable o true s)) (variable o false (b ∷ s))

-- "one or more blanks, optional `~` or `-` (negation), `x`, digits, blanks"
unfoldable pub after_weight : Options → ℤ → Reader Term
after_weight o w = chain gap1 λ _. chain (literal o) λ c. chain gap λ _. done (term w c)

-- "Term: number, one or more blanks, optional `~` or `-` (negation), `x`, digits, blanks."
unfoldable pub weighted : Options → Reader Term
weighted o = chain number λ w. after_weight o w

-- "A digit or sign after a term begins another."
unfoldable pub begins_term : List ℕ → Bool
begins_term [] = false
begins_term (b ∷ s) = is_digit b || is_sign b

abbrev pub as_step : {A : Type 0} → Got A → Step A
as_step (none e) = bad (fault_at 0 e)
as_step (got a n) = item a n

unfoldable pub term_step : Options → List ℕ → Step Term
term_step o s = elim (begins_term s) [ true ↦ as_step (weighted o s) | false ↦ stop ]

abbrev pub as_got : {A : Type 0} → Walked A → Got (List A)
as_got (broken r) = none (fault_of r)
as_got (items xs n) = got xs n

-- "zero or more terms"
unfoldable pub sum : Options → Reader (List Term)
sum o s = as_got (all (term_step o) anywhere s)

-- ---- operator, ending

-- "Operator: `<=`, `>=`, `<`, `>`, `=`, longest first."; 6: "no operator after a sum"
unfoldable pub operator : Reader OpbOperator
operator [] = none (fault 6)
operator (b ∷ s) =
    cond (eqb b less) (cond (is_at equals s) (got LE 2) (got LT 1))
    (cond (eqb b greater) (cond (is_at equals s) (got GE 2) (got GT 1))
    (cond (eqb b equals) (got EQ 1) (none (fault 6))))

-- after the blanks: "`;` (then blanks and one line ending, if there), or a line ending, or file end"; 7: "no ending".
-- Its value is whether a `;` stands there.
unfoldable pub closing : Reader Bool
closing [] = got false 0
closing (b ∷ s) =
    cond (eqb b semicolon) (got true (1 + blanks s + line_ending (drop (blanks s) s)))
    (elim (line_ending (b ∷ s)) [ zero ↦ none (fault 7) | suc k ↦ got false (suc k) ])

-- "Ending: blanks, then ..."
unfoldable pub ending : Reader Bool
ending = chain gap λ _. closing

-- ---- constraint, objective, comment

-- what is compared with the sum: an operator and the number behind it; and whether a `;` closes the statement
pub record Comparison : Type 0 where
  pub operator : OpbOperator
  pub number : ℤ
  pub semicolon : Bool

abbrev pub comparison_of : OpbOperator → ℤ → Bool → Comparison
comparison_of p b e = record { operator = p; number = b; semicolon = e }

-- "operator, blanks, number, ending"
unfoldable pub comparison : Reader Comparison
comparison = chain operator λ p. chain gap λ _. chain number λ b. chain ending λ e. done (comparison_of p b e)

abbrev pub kind_of : OpbOperator → Kind
kind_of LE = at_most
kind_of GE = at_least
kind_of LT = at_most
kind_of GT = at_least
kind_of EQ = equal

-- "`> b` is at least b+1, `< b` is at most b-1."
abbrev pub bound_of : OpbOperator → ℤ → ℤ
bound_of LE b = b
bound_of GE b = b
bound_of LT b = b -ℤ pos 1
bound_of GT b = b +ℤ pos 1
bound_of EQ b = b

-- a statement once its ending is met, with a `;` or without: no option asks for one yet. 8: "absolute weights above M,
-- or a result beyond signed 64 bits"; "8 after the ending of its statement"
unfoldable pub finished : Options → Bool → Kind → ℤ → List Term → Reader Row
finished o e k b ts s = cond (leb (sizes ts) weight_limit && in_i64 b) (got (row_of k b ts) 0) (none (fault 8))

-- "constraint: one or more terms, operator, blanks, number, ending". It is begun by a digit or a sign, and so is its
-- first term.
unfoldable pub constraint : Options → Reader Row
constraint o =
    chain (sum o) λ ts. chain comparison λ c. finished o c.semicolon (kind_of c.operator) (bound_of c.operator c.number) ts

-- "`min:`"; 2 where only the `m` is there
unfoldable pub min_word : Reader ℕ
min_word s = cond (starts_with min_text s) (got 0 (length min_text)) (none (fault 2))

-- "`min:`, blanks"
unfoldable pub min_blanks : Reader ℕ
min_blanks = chain min_word λ _. gap

-- "`min:`, blanks, zero or more terms, an ending: objective"
unfoldable pub goal : Options → Reader Row
goal o = chain min_blanks λ _. chain (sum o) λ ts. chain ending λ e. finished o e objective (pos 0) ts

-- how many bytes stand between `*` and the text: "after one space directly behind it, if there"
abbrev pub space_after : List ℕ → ℕ
space_after s = cond (is_at space s) 1 0

-- "`*`: comment to the line ending or file end, any bytes." The offset is counted from the `*`.
unfoldable pub remark : Reader Line
remark [] = none (fault 2)
remark (b ∷ s) =
    let n = until_ending s in
    got (comment (1 + space_after s) (n - space_after s) (pos 0)) (1 + n + line_ending (drop n s))

-- ---- statement

abbrev pub as_line : Row → Reader Line
as_line r = done (row r)

abbrev pub statement_by : Beginning → Options → Reader Line
statement_by Comment o = remark
statement_by Objective o = chain (goal o) as_line
statement_by Constraint o = chain (constraint o) as_line
statement_by Nothing o = fail (fault 2)

-- the place: "S is the offset of the statement's first byte after blanks", here the number k of those blanks
abbrev pub after_blanks : ℕ → Got Line → Step Line
after_blanks k (none e) = bad (fault_at k e)
after_blanks k (got (comment f n b) m) = item (comment (k + f) n b) (k + m)
after_blanks k (got (row r) m) = item (row r) (k + m)

unfoldable pub statement_at : Options → ℕ → List ℕ → Step Line
statement_at o k [] = stop
statement_at o k (b ∷ s) = after_blanks k (statement_by (begins (class_of b)) o (b ∷ s))

-- "Blanks before a statement are skipped. At the end of the file that is a normal end."
unfoldable pub statement : Options → List ℕ → Step Line
statement o s = statement_at o (blanks s) (drop (blanks s) s)

-- a comment's offset is in the file
abbrev pub in_file : ℕ → Line → Line
in_file at (comment f n b) = comment (at + f) n b
in_file at (row r) = row r
