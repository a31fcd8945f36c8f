-- What are the public OPB document's own linear grammar and meaning, apart from definitions' Text and Meaning? A file
-- of the grammar is the text of a tree; what the trees below may hold beyond the grammar's sentences, `WellFormed`
-- rules out. (The document: cril.univ-artois.fr/PB12/format.pdf; docs/DECISIONS.md says what is known of it here.)
use Rattle.std.specs.Prelude.{ℕ, zero, suc, ◌+◌, ◌*◌, ◌≤◌, ◌<◌, ◌≡◌, Bool, true, false, ◌&&◌, List, [], ◌∷◌, ◌++◌, map, length, ℤ, pos, neg_ℤ, ◌+ℤ◌, ◌*ℤ◌}
use Rattle.std.specs.Int.Signed.{le_z}
use Rattle.definitions.specs.Lists.{joined, AllOf}
use Rattle.definitions.specs.Bytes.{bytes, lf, space, star, letter_x}

unfoldable pub spaces : ℕ → List ℕ
spaces zero = []
spaces (suc n) = space ∷ spaces n

-- ---- "Integer: digits, with an optional `+` or `-` directly before them."
pub data Sign : Type 0 where
  unsigned plus minus : Sign

-- the digits are numbers from 0 to 9
pub record Integer : Type 0 where
  pub sign : Sign
  pub first : ℕ
  pub others : List ℕ

abbrev pub sign_text : Sign → List ℕ
sign_text unsigned = []
sign_text plus = bytes "+"
sign_text minus = bytes "-"

-- the byte 48 is `0`
abbrev pub digit_text : ℕ → ℕ
digit_text d = 48 + d

unfoldable pub digits_value : ℕ → List ℕ → ℕ
digits_value n [] = n
digits_value n (d ∷ ds) = digits_value (n * 10 + d) ds

unfoldable pub integer_text : Integer → List ℕ
integer_text z = sign_text z.sign ++ map digit_text (z.first ∷ z.others)

abbrev pub signed_by : Sign → ℕ → ℤ
signed_by unsigned n = pos n
signed_by plus n = pos n
signed_by minus n = neg_ℤ (pos n)

-- the number that the digits alone are
abbrev pub unsigned_value : Integer → ℕ
unsigned_value z = digits_value 0 (z.first ∷ z.others)

unfoldable pub integer_value : Integer → ℤ
integer_value z = signed_by z.sign (unsigned_value z)

abbrev pub IsDigit : ℕ → Type 0
IsDigit d = d < 10

pub record GoodInteger (z : Integer) : Type 0 where
  pub digits : AllOf IsDigit (z.first ∷ z.others)

-- ---- "Weighted term: an integer, one or more spaces, a variable, one or more spaces." "Variable: `x` and digits, the
-- number from 1 to N."
pub record WeightedTerm : Type 0 where
  pub weight : Integer
  pub gap : ℕ
  pub first : ℕ
  pub others : List ℕ
  pub behind : ℕ

unfoldable pub variable_of : WeightedTerm → ℕ
variable_of t = digits_value 0 (t.first ∷ t.others)

unfoldable pub term_text : WeightedTerm → List ℕ
term_text t =
    integer_text t.weight ++ (spaces (suc t.gap) ++ (letter_x ∷ (map digit_text (t.first ∷ t.others) ++ spaces (suc t.behind))))

pub record GoodTerm (most : ℕ) (t : WeightedTerm) : Type 0 where
  pub weight : GoodInteger t.weight
  pub digits : AllOf IsDigit (t.first ∷ t.others)
  pub low : 1 ≤ variable_of t
  pub high : variable_of t ≤ most

-- ---- "Sum: one or more weighted terms."
pub record Sum : Type 0 where
  pub first : WeightedTerm
  pub others : List WeightedTerm

abbrev pub sum_text : List WeightedTerm → List ℕ
sum_text ts = joined term_text ts

abbrev pub terms_of : Sum → List WeightedTerm
terms_of s = s.first ∷ s.others

-- ---- "Relational operators: `>=` and `=` only." "Constraint: a sum, a relational operator, zero or more spaces, an
-- integer, zero or more spaces, `;`."
pub data Relation : Type 0 where
  at_least equal : Relation

abbrev pub relation_text : Relation → List ℕ
relation_text at_least = bytes ">="
relation_text equal = bytes "="

pub record Constraint : Type 0 where
  pub sum : Sum
  pub relation : Relation
  pub gap : ℕ
  pub bound : Integer
  pub behind : ℕ

-- "Each statement is to stand on one line of its own."
abbrev pub ended : List ℕ
ended = bytes ";\n"

unfoldable pub constraint_text : Constraint → List ℕ
constraint_text c =
    sum_text (terms_of c.sum)
    ++ (relation_text c.relation ++ (spaces c.gap ++ (integer_text c.bound ++ (spaces c.behind ++ ended))))

pub record GoodConstraint (most : ℕ) (c : Constraint) : Type 0 where
  pub terms : AllOf (GoodTerm most) (terms_of c.sum)
  pub bound : GoodInteger c.bound

-- ---- "Objective: `min:`, zero or more spaces, a sum, `;`."
pub record Objective : Type 0 where
  pub gap : ℕ
  pub sum : Sum

unfoldable pub objective_text : Objective → List ℕ
objective_text g = bytes "min:" ++ (spaces g.gap ++ (sum_text (terms_of g.sum) ++ ended))

-- ---- "Comment: `*`, then any characters but the end of line, then the end of line."
unfoldable pub comment_text : List ℕ → List ℕ
comment_text t = star ∷ (t ++ (lf ∷ []))

abbrev pub NoLineEnd : ℕ → Type 0
NoLineEnd b = b ≡ lf → ⊥

-- ---- "A file: comments, then at most one objective, then comments and constraints in any order."
pub data Statement : Type 0 where
  comment : List ℕ → Statement
  goal : Objective → Statement
  constraint : Constraint → Statement

unfoldable pub statement_text : Statement → List ℕ
statement_text (comment t) = comment_text t
statement_text (goal g) = objective_text g
statement_text (constraint c) = constraint_text c

abbrev pub statements_text : List Statement → List ℕ
statements_text xs = joined statement_text xs

-- "The first line is a comment of the form `* #variable= N #constraint= M`: N is the number of variables, x1 to xN, and
-- M the number of constraints that follow." The numbers are written as integers without a sign.
pub record File : Type 0 where
  pub variables : Integer
  pub constraints : Integer
  pub comments : List (List ℕ)
  pub objective : List Objective
  pub body : List Statement

abbrev pub variable_words : List ℕ
variable_words = bytes " #variable= "

abbrev pub constraint_words : List ℕ
constraint_words = bytes " #constraint= "

unfoldable pub header_of : File → List ℕ
header_of f = variable_words ++ (integer_text f.variables ++ (constraint_words ++ integer_text f.constraints))

unfoldable pub statements_of : File → List Statement
statements_of f = comment (header_of f) ∷ (map comment f.comments ++ (map goal f.objective ++ f.body))

unfoldable pub file_text : File → List ℕ
file_text f = statements_text (statements_of f)

-- how many of the statements are constraints
unfoldable pub constraint_count : List Statement → ℕ
constraint_count [] = 0
constraint_count (comment t ∷ xs) = constraint_count xs
constraint_count (goal g ∷ xs) = constraint_count xs
constraint_count (constraint c ∷ xs) = suc (constraint_count xs)

-- behind the objective: comments and constraints
abbrev pub GoodStatement : ℕ → Statement → Type 0
GoodStatement most (comment t) = AllOf NoLineEnd t
GoodStatement most (goal g) = ⊥
GoodStatement most (constraint c) = GoodConstraint most c

pub record WellFormed (f : File) : Type 0 where
  pub variables : GoodInteger f.variables × (f.variables.sign ≡ unsigned)
  pub constraints : GoodInteger f.constraints × (f.constraints.sign ≡ unsigned)
  pub counted : unsigned_value f.constraints ≡ constraint_count f.body
  pub comments : AllOf (AllOf NoLineEnd) f.comments
  pub objective : AllOf (λ g. AllOf (GoodTerm (unsigned_value f.variables)) (terms_of g.sum)) f.objective
  pub single : length f.objective ≤ 1
  pub body : AllOf (GoodStatement (unsigned_value f.variables)) f.body

-- ---- "Meaning: variables take 0 or 1; ... a sum is the sum of weight times value, as whole numbers; `>=` and `=`
-- compare that sum with the integer. A solution satisfies every constraint; an objective's value is its sum." An
-- assignment is by the variable's number.
abbrev pub bit : Bool → ℤ
bit false = pos 0
bit true = pos 1

unfoldable pub sum_value : (ℕ → Bool) → List WeightedTerm → ℤ
sum_value a [] = pos 0
sum_value a (t ∷ ts) = (integer_value t.weight *ℤ bit (a (variable_of t))) +ℤ sum_value a ts

abbrev pub compared : Relation → ℤ → ℤ → Bool
compared at_least s b = le_z b s
compared equal s b = le_z s b && le_z b s

unfoldable pub satisfied : (ℕ → Bool) → Constraint → Bool
satisfied a c = compared c.relation (sum_value a (terms_of c.sum)) (integer_value c.bound)

unfoldable pub objective_value : (ℕ → Bool) → Objective → ℤ
objective_value a g = sum_value a (terms_of g.sum)
