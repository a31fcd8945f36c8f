-- What does it say that rows come back, where a file is written and read again (01, "What the contracts owe", demand
-- 3)? Words of a theorem: proofs/ThereAndBack.antt has the statement.
use Rattle.std.specs.Prelude.{ℕ, ◌+◌, ◌≡◌, Bool, true, false, cond, List, [], ◌∷◌, ◌++◌, eqb, length, take, drop, ℤ, pos, ◌+ℤ◌}
use Rattle.definitions.specs.Bytes.{cr}
use Rattle.definitions.specs.Number.{integer_text}
use Rattle.definitions.specs.Row.{Kind, at_least, at_most, equal, objective, Row, Line, comment, row}
use Rattle.definitions.specs.Meaning.{Assignment, holds, value_of}
use Rattle.definitions.specs.File.{first_at}
use Rattle.definitions.specs.Write.{printed, offset_words, is_zero, Item, say, line}
use Rattle.definitions.specs.declared.Mode.{Mode}
use Rattle.definitions.specs.declared.Options.{Options}

-- read with the same first index
abbrev pub options_of : Mode → Options
options_of m = first_at m.first

-- two lists, one for one, in order
pub data Paired {A B : Type 0} (R : A → B → Type 0) : List A → List B → Type 0 where
  none : Paired R [] []
  next : {x : A} {y : B} {xs : List A} {ys : List B} → R x y → Paired R xs ys → Paired R (x ∷ xs) (y ∷ ys)

-- the rows among what is written, and the rows among the lines of a file: comments are left out
unfoldable pub rows_asked : List Item → List Row
rows_asked [] = []
rows_asked (say t ∷ is) = rows_asked is
rows_asked (line r ∷ is) = r ∷ rows_asked is

unfoldable pub rows_in : List Line → List Row
rows_in [] = []
rows_in (comment f n b ∷ ls) = rows_in ls
rows_in (row r ∷ ls) = r ∷ rows_in ls

abbrev pub is_goal : Kind → Bool
is_goal at_least = false
is_goal at_most = false
is_goal equal = false
is_goal objective = true

-- the offset that is printed for an objective: 0 where no line for it follows
abbrev pub offset_of : Mode → Row → ℤ
offset_of m r = (printed m.plain r).bound

-- the row r' that came back means what the row r meant
pub record Means (m : Mode) (r r' : Row) : Type 0 where
  -- a constraint for a constraint, an objective for an objective
  pub sort : is_goal r'.kind ≡ is_goal r.kind
  -- it holds exactly where r held
  pub holding : (a : Assignment) → holds a r' ≡ holds a r
  -- its value and the offset printed for it make the value of r with its own offset
  pub value : (a : Assignment) → r.kind ≡ objective → value_of a r' +ℤ offset_of m r ≡ value_of a r

-- ---- how much comes back, which is known before it is written

-- "If the final offset is not 0, a line ... follows": of a row with the final offset z
abbrev pub offset_line : Kind → ℤ → ℕ
offset_line at_least z = 0
offset_line at_most z = 0
offset_line equal z = 0
offset_line objective z = cond (is_zero z) 0 1

-- a line for each row, and one for each offset
abbrev pub lines_back : Mode → Item → ℕ
lines_back m (say t) = 1
lines_back m (line r) = 1 + offset_line r.kind (offset_of m r)

-- the terms of a row come back as many as they are
abbrev pub terms_back : Item → ℕ
terms_back (say t) = 0
terms_back (line r) = length r.terms

-- ---- what comes back

-- a CR at the end of a comment's text makes one line ending with the LF behind it
unfoldable pub without_cr : List ℕ → List ℕ
without_cr [] = []
without_cr (b ∷ []) = cond (eqb b cr) [] (b ∷ [])
without_cr (b ∷ c ∷ s) = b ∷ without_cr (c ∷ s)

-- the lines of the file s that came back of one item
pub data Back (m : Mode) (s : List ℕ) : Item → List Line → Type 0 where
  -- of a comment one comment, with its text
  remark : {t : List ℕ} {f n : ℕ} → take n (drop f s) ≡ without_cr t → Back m s (say t) (comment f n (pos 0) ∷ [])
  -- of a constraint one row
  constraint : {r r' : Row} → is_goal r.kind ≡ false → Means m r r' → Back m s (line r) (row r' ∷ [])
  -- of an objective that is printed without an offset one row
  goal : {r r' : Row} → is_goal r.kind ≡ true → Means m r r' → offset_of m r ≡ pos 0 → Back m s (line r) (row r' ∷ [])
  -- of any other objective one row, and behind it one comment that says the offset
  goal_and_offset : {r r' : Row} {f n : ℕ} → is_goal r.kind ≡ true → Means m r r' → (offset_of m r ≡ pos 0 → ⊥)
      → take n (drop f s) ≡ offset_words ++ integer_text (offset_of m r) → Back m s (line r) (row r' ∷ comment f n (pos 0) ∷ [])
