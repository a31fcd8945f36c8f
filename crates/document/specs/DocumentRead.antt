-- What does it say that a file of the OPB document is read as the document means it? The document numbers its variables
-- from 1, so the first index is 1. Words of a theorem: proofs/OpbDocument.antt has the statement.
use Rattle.std.specs.Prelude.{ℕ, ◌+◌, ◌-◌, ◌≤◌, ◌≡◌, Bool, true, false, cond, List, [], ◌∷◌, eqb, length, take, drop, pos, nat_abs}
use Rattle.definitions.specs.Lists.{AllOf}
use Rattle.definitions.specs.Limits.{file_limit, index_limit, weight_limit, in_i64}
use Rattle.definitions.specs.Bytes.{space}
use Rattle.definitions.specs.Row.{Row, Line, comment, row}
use Rattle.definitions.specs.declared.Kind.TheVariants.{Objective as objective}
use Rattle.definitions.specs.File.{first_at}
use Rattle.definitions.specs.Meaning.{Assignment, holds, value_of}
use Rattle.definitions.specs.Back.{is_goal, without_cr}
use Rattle.document.specs.Document as D
use Rattle.definitions.specs.declared.Options.{Options}

-- "first index 1"
abbrev pub from_one : Options
from_one = first_at 1

-- ---- 01's limits on a file of the document

-- "sum of absolute weights in a row"
unfoldable pub weights_of : List D.WeightedTerm → ℕ
weights_of [] = 0
weights_of (t ∷ ts) = nat_abs (D.integer_value t.weight) + weights_of ts

-- "variable index": the file number less the first index
abbrev pub IndexWithin : D.WeightedTerm → Type 0
IndexWithin t = D.variable_of t - 1 ≤ index_limit

pub record SumWithin (ts : List D.WeightedTerm) : Type 0 where
  pub weights : weights_of ts ≤ weight_limit
  pub indexes : AllOf IndexWithin ts

-- "bound, weight: signed 64 bits", of which the weights are within already
abbrev pub StatementWithin : D.Statement → Type 0
StatementWithin (D.comment t) = Unit {0}
StatementWithin (D.goal g) = SumWithin (D.terms_of g.sum)
StatementWithin (D.constraint c) = SumWithin (D.terms_of c.sum) × (in_i64 (D.integer_value c.bound) ≡ true)

pub record WithinLimits (f : D.File) : Type 0 where
  pub file : length (D.file_text f) ≤ file_limit
  pub statements : AllOf StatementWithin (D.statements_of f)

-- ---- what is read means what the document says

-- the document's assignment, which is by the variable's number, by index
abbrev pub by_index : (ℕ → Bool) → Assignment
by_index b v = b (v + 1)

-- "the part after `*` and after one space directly behind it, if there"
abbrev pub without_space : List ℕ → List ℕ
without_space [] = []
without_space (b ∷ s) = cond (eqb b space) s (b ∷ s)

-- a statement of the document and the line of the file s that is read of it
pub data Says (s : List ℕ) : D.Statement → Line → Type 0 where
  -- a comment for a comment, with its text
  remark : {t : List ℕ} {f n : ℕ} → take n (drop f s) ≡ without_cr (without_space t) → Says s (D.comment t) (comment f n (pos 0))
  -- an objective that has the document's value
  goal : {g : D.Objective} {r : Row} → r.kind ≡ objective → ((b : ℕ → Bool) → value_of (by_index b) r ≡ D.objective_value b g)
      → Says s (D.goal g) (row r)
  -- a constraint that holds exactly where the document's is satisfied
  constraint : {c : D.Constraint} {r : Row} → is_goal r.kind ≡ false → ((b : ℕ → Bool) → holds (by_index b) r ≡ D.satisfied b c)
      → Says s (D.constraint c) (row r)
