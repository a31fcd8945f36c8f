-- What does a table hold (01, "Numbers and tables")? Lent columns: six lists, four with an entry for each row, two with
-- an entry for each term. What is put into them, and which rows are in them.
use Rattle.std.specs.Prelude.{ℕ, ◌+◌, min, Bool, true, cond, ◌&&◌, List, [], ◌∷◌, map, leb, eqb, length, take, drop, ℤ}
use Rattle.definitions.specs.Lists.{over, joined}
use Rattle.definitions.specs.Refusal.{Refusal, refusal, needed, Checked, refuse, accept}
use Rattle.definitions.specs.Literal.{index_of, is_index}
use Rattle.definitions.specs.Row.{Term, term, weight_of, literal_of, Kind, at_least, at_most, equal, objective, row_of, Line}
use Rattle.definitions.specs.Row.{comment, row, terms_of}
pub use Rattle.definitions.specs.declared.Totals.{Totals}
pub use Rattle.definitions.specs.declared.Entry.{Entry}

pub record Table : Type 0 where
  pub kinds : List ℕ
  pub firsts : List ℕ
  pub counts : List ℕ
  pub bounds : List ℤ
  pub weights : List ℤ
  pub literals : List ℕ

abbrev pub table : List ℕ → List ℕ → List ℕ → List ℤ → List ℤ → List ℕ → Table
table k f n b w l = record { kinds = k; firsts = f; counts = n; bounds = b; weights = w; literals = l }

-- "Columns of unequal length have the room of the shortest."
abbrev pub row_room : Table → ℕ
row_room t = min (length t.kinds) (min (length t.firsts) (min (length t.counts) (length t.bounds)))

abbrev pub term_room : Table → ℕ
term_room t = min (length t.weights) (length t.literals)

-- ---- what a call answers: a refusal, or what it found
pub data Outcome (A : Type 0) : Type 0 where
  refused : Refusal → Outcome A
  accepted : A → Outcome A

-- ---- lines into columns

-- the numbers in the column of kinds: 0 comment, 1 at least, 2 at most, 3 equal, 4 objective
abbrev pub kind_number : Kind → ℕ
kind_number at_least = 1
kind_number at_most = 2
kind_number equal = 3
kind_number objective = 4

abbrev pub kind_in : Line → ℕ
kind_in (comment f n b) = 0
kind_in (row r) = kind_number r.kind

-- "its first term (the count of terms before it)", of a row with m terms before it; a comment's is its offset
abbrev pub first_in : ℕ → Line → ℕ
first_in m (comment f n b) = f
first_in m (row r) = m

abbrev pub count_in : Line → ℕ
count_in (comment f n b) = n
count_in (row r) = length r.terms

abbrev pub bound_in : Line → ℤ
bound_in (comment f n b) = b
bound_in (row r) = r.bound

unfoldable pub firsts_from : ℕ → List Line → List ℕ
firsts_from m [] = []
firsts_from m (l ∷ ls) = first_in m l ∷ firsts_from (m + length (terms_of l)) ls

abbrev pub all_terms : List Line → List Term
all_terms ls = joined terms_of ls

unfoldable pub filled : List Line → Table → Table
filled ls t =
    table (over (map kind_in ls) t.kinds) (over (firsts_from 0 ls) t.firsts) (over (map count_in ls) t.counts)
    (over (map bound_in ls) t.bounds) (over (map weight_of (all_terms ls)) t.weights)
    (over (map literal_of (all_terms ls)) t.literals)

-- "9, then 10": "rows, terms do not fit", with the "count needed"
unfoldable pub fitted : Table → Outcome (List Line) → Outcome (List Line)
fitted t (refused r) = refused r
fitted t (accepted ls) =
    cond (leb (length ls) (row_room t))
    (cond (leb (length (all_terms ls)) (term_room t)) (accepted ls) (refused (refusal 10 (needed (length (all_terms ls))))))
    (refused (refusal 9 (needed (length ls))))

-- what an accepted call answers: "rows and terms"
abbrev pub totals_of : ℕ → ℕ → Totals
totals_of n m = record { rows = n; terms = m }

abbrev pub counted : Outcome (List Line) → Outcome Totals
counted (refused r) = refused r
counted (accepted ls) = accepted (totals_of (length ls) (length (all_terms ls)))

-- what a table holds after a call: "A refused call changes nothing it was lent"
unfoldable pub after : Outcome (List Line) → Table → Table
after (refused r) t = t
after (accepted ls) t = filled ls t

-- ---- columns into rows: "A call over a table takes every row lent; rows count from 0."
-- one for each row, up to the end of the shortest column
unfoldable pub entries_of : List ℕ → List ℕ → List ℕ → List ℤ → List Entry
entries_of [] fs ns bs = []
entries_of (k ∷ ks) [] ns bs = []
entries_of (k ∷ ks) (f ∷ fs) [] bs = []
entries_of (k ∷ ks) (f ∷ fs) (n ∷ ns) [] = []
entries_of (k ∷ ks) (f ∷ fs) (n ∷ ns) (b ∷ bs) = record { kind = k; first = f; count = n; bound = b } ∷ entries_of ks fs ns bs

abbrev pub entries : Table → List Entry
entries t = entries_of t.kinds t.firsts t.counts t.bounds

unfoldable pub terms_on : List ℤ → List ℕ → List Term
terms_on [] cs = []
terms_on (w ∷ ws) [] = []
terms_on (w ∷ ws) (c ∷ cs) = term w c ∷ terms_on ws cs

-- the terms that an entry names
abbrev pub terms_at : Table → Entry → List Term
terms_at t e = take e.count (drop e.first (terms_on t.weights t.literals))

-- not "terms outside their column"
abbrev pub in_column : Table → Entry → Bool
in_column t e = leb (e.first + e.count) (term_room t)

-- not "an index above its limit"
unfoldable pub indexed : List Term → Bool
indexed [] = true
indexed (t ∷ ts) = is_index (index_of t.code) && indexed ts

-- what the number in the column of kinds says: "comment, clause, cardinality and weighted constraints (at most, at
-- least, equal), objective; a read row's kind is the weighted, comment or objective kind of the same name"
pub data Sort : Type 0 where
  remark clause unknown : Sort
  weighted cardinality : Kind → Sort

unfoldable pub sort_of : ℕ → Sort
sort_of k =
    cond (eqb k 0) remark
    (cond (eqb k 1) (weighted at_least)
    (cond (eqb k 2) (weighted at_most)
    (cond (eqb k 3) (weighted equal)
    (cond (eqb k 4) (weighted objective)
    (cond (eqb k 5) clause
    (cond (eqb k 6) (cardinality at_least)
    (cond (eqb k 7) (cardinality at_most)
    (cond (eqb k 8) (cardinality equal) unknown))))))))

-- "Row by row": the first refusal with its row, rows counted from i; or all
abbrev pub on_row : {B : Type 0} → ℕ → Checked B → Outcome (List B) → Outcome (List B)
on_row i (refuse n) os = refused (refusal n i)
on_row i (accept b) (refused r) = refused r
on_row i (accept b) (accepted bs) = accepted (b ∷ bs)

unfoldable pub row_by_row : {A B : Type 0} → (A → Checked B) → ℕ → List A → Outcome (List B)
row_by_row f i [] = accepted []
row_by_row f i (a ∷ l) = on_row i (f a) (row_by_row f (i + 1) l)

-- one check after another
abbrev pub and_then : {A B : Type 0} → Checked A → (A → Checked B) → Checked B
and_then (refuse n) f = refuse n
and_then (accept a) f = f a

-- ---- rows of the read kinds, as normaliser and evaluator know them; 11: "kind unknown ..., terms outside their
-- column, an index above its limit"
abbrev pub row_in : Kind → Table → Entry → Checked Line
row_in k t e = cond (in_column t e && indexed (terms_at t e)) (accept (row (row_of k e.bound (terms_at t e)))) (refuse 11)

abbrev pub line_by : Sort → Table → Entry → Checked Line
line_by remark t e = accept (comment e.first e.count e.bound)
line_by (weighted k) t e = row_in k t e
line_by clause t e = refuse 11
line_by (cardinality k) t e = refuse 11
line_by unknown t e = refuse 11

unfoldable pub line_in : Table → Entry → Checked Line
line_in t e = line_by (sort_of e.kind) t e
