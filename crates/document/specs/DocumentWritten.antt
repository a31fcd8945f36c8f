-- What does it say that a written file lies in the OPB document's grammar? The document numbers its variables from 1
-- and has no negated literals, so a file is written for it with first index 1 in no-negated mode. Words of a theorem:
-- proofs/WrittenDocument.antt has the statement.
use Rattle.std.specs.Prelude.{ℕ, ◌+◌, ◌≤◌, ◌≡◌, Bool, true, false, cond, List, [], ◌∷◌, ◌++◌, map, length, ◌+ℤ◌}
use Rattle.definitions.specs.Lists.{joined, AllOf}
use Rattle.definitions.specs.Bytes.{bytes, space, min_text}
use Rattle.definitions.specs.Number.{decimal}
use Rattle.definitions.specs.Literal.{index_of}
use Rattle.definitions.specs.Row.{Term, Row}
use Rattle.definitions.specs.declared.Kind.TheVariants.{Objective as objective}
use Rattle.definitions.specs.Meaning.{holds, value_of}
use Rattle.definitions.specs.Write.{printed, apart, closed, offset_text, Item, say, line, item_text}
use Rattle.definitions.specs.Back.{Paired, rows_asked, is_goal, offset_of}
use Rattle.document.specs.Document as D
use Rattle.document.specs.DocumentRead.{by_index}
use Rattle.definitions.specs.declared.Mode.{Mode}

-- first index 1, no-negated mode
abbrev pub for_document : Mode
for_document = record { first = 1; plain = true }

-- ---- what is asked of the items: "comments, then at most one objective, then comments and constraints in any order"

-- the constraints among what is written
unfoldable pub constraints_asked : List Item → List Row
constraints_asked [] = []
constraints_asked (say t ∷ is) = constraints_asked is
constraints_asked (line r ∷ is) = cond (is_goal r.kind) (constraints_asked is) (r ∷ constraints_asked is)

-- "The first line is a comment of the form `* #variable= N #constraint= M`": the text behind the `*` and the space that
-- the writer prints
unfoldable pub header_said : ℕ → ℕ → List ℕ
header_said n m = bytes "#variable= " ++ (decimal n ++ (bytes " #constraint= " ++ decimal m))

-- the file number of each variable of a row, from first index 1, is at most n
abbrev pub UpTo : ℕ → Row → Type 0
UpTo n r = AllOf (λ (t : Term). index_of t.code + 1 ≤ n) r.terms

-- an objective with a term: "Sum: one or more weighted terms"
pub record GoalWithTerms (r : Row) : Type 0 where
  pub kind : r.kind ≡ objective
  pub some : 1 ≤ length r.terms

-- a comment or a constraint
abbrev pub NoGoal : Item → Type 0
NoGoal (say t) = Unit {0}
NoGoal (line r) = is_goal r.kind ≡ false

pub record InOrder (is : List Item) : Type 0 where
  pub variables : ℕ
  pub comments : List (List ℕ)
  pub objectives : List Row
  pub body : List Item
  -- the header, comments, the objective, comments and constraints. "M the number of constraints that follow"
  pub order : is ≡ say (header_said variables (length (constraints_asked is))) ∷ (map say comments ++ (map line objectives ++ body))
  -- "N is the number of variables, x1 to xN"
  pub named : AllOf (UpTo variables) (rows_asked is)
  pub goals : AllOf GoalWithTerms objectives
  pub single : length objectives ≤ 1
  pub behind : AllOf NoGoal body

-- ---- where the text of an objective is parted: right before its `;`

module _ {is : List Item} (o : InOrder is) (r : Row) where
  -- all that is written before it, and its own line but for the `;`
  unfoldable pub before_end : List ℕ
  before_end =
      joined (item_text for_document) (say (header_said o.variables (length (constraints_asked is))) ∷ map say o.comments)
      ++ (min_text ++ joined (apart for_document.first) (printed for_document.plain r).terms)

  -- the `;` with its line ending, the line of an offset where there is one, and all that is written behind
  unfoldable pub from_end : List ℕ
  from_end = closed ++ (offset_text (offset_of for_document r) ++ joined (item_text for_document) o.body)

-- ---- the document's meaning

-- the constraints among a document's statements
unfoldable pub constraints_in : List D.Statement → List D.Constraint
constraints_in [] = []
constraints_in (D.comment t ∷ xs) = constraints_in xs
constraints_in (D.goal g ∷ xs) = constraints_in xs
constraints_in (D.constraint c ∷ xs) = c ∷ constraints_in xs

-- satisfied exactly where the row holds
abbrev pub SatisfiedAlike : Row → D.Constraint → Type 0
SatisfiedAlike r c = (b : ℕ → Bool) → D.satisfied b c ≡ holds (by_index b) r

-- the value with the offset printed for it is the value of the row with its own offset
abbrev pub ValuedAlike : Row → D.Objective → Type 0
ValuedAlike r g = (b : ℕ → Bool) → D.objective_value b g +ℤ offset_of for_document r ≡ value_of (by_index b) r

-- ---- the whole

-- what is said of the file s that is written of items in the document's order
pub record WrittenDocument {is : List Item} (o : InOrder is) (s : List ℕ) : Type 0 where
  -- a file of the document's grammar
  pub document : D.File
  pub good : D.WellFormed document
  -- without an objective its text is the written text
  pub same : o.objectives ≡ [] → D.file_text document ≡ s
  -- with an objective the written text lacks one space, right before the `;` of the objective's line; before and behind
  -- that place the two are the same
  pub lacks : (r : Row) → o.objectives ≡ r ∷ []
      → (s ≡ before_end o r ++ from_end o r) × (D.file_text document ≡ before_end o r ++ (space ∷ from_end o r))
  -- one constraint of the document for each constraint asked for, in order, satisfied exactly where that holds
  pub constraints : Paired SatisfiedAlike (constraints_asked is) (constraints_in document.body)
  -- its objective is the one asked for: the document's value and the offset printed for it make the value asked for
  pub objectives : Paired ValuedAlike o.objectives document.objective
