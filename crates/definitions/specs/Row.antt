-- What is a row (01, "Numbers and tables")? "A read row is: comment, at least, at most, equal, or objective; with its
-- first term (the count of terms before it), count of terms and bound (0 for an objective). Terms keep order, sign and
-- zero weights; a repeated variable counts each time."
use Rattle.std.specs.Prelude.{ℕ, ◌+◌, List, [], ◌∷◌, ℤ, nat_abs}
pub use Rattle.definitions.specs.declared.Kind.{Kind}
pub use Rattle.definitions.specs.declared.Kind.TheVariants.{AtLeast as at_least, AtMost as at_most, Equal as equal}
pub use Rattle.definitions.specs.declared.Kind.TheVariants.{Objective as objective}

pub record Term : Type 0 where
  pub weight : ℤ
  pub code : ℕ

abbrev pub term : ℤ → ℕ → Term
term w c = record { weight = w; code = c }

abbrev pub weight_of : Term → ℤ
weight_of t = t.weight

abbrev pub literal_of : Term → ℕ
literal_of t = t.code

-- the bound of an objective is its offset
pub record Row : Type 0 where
  pub kind : Kind
  pub bound : ℤ
  pub terms : List Term

abbrev pub row_of : Kind → ℤ → List Term → Row
row_of k b ts = record { kind = k; bound = b; terms = ts }

-- a row of a table. "A comment row's first and count are the offset and length, in the file, of the part after `*` and
-- after one space directly behind it, if there, up to the line ending or file end; its bound is 0."
pub data Line : Type 0 where
  comment : ℕ → ℕ → ℤ → Line
  row : Row → Line

abbrev pub terms_of : Line → List Term
terms_of (comment f n b) = []
terms_of (row r) = r.terms

-- "sum of absolute weights in a row"
unfoldable pub sizes : List Term → ℕ
sizes [] = 0
sizes (t ∷ ts) = nat_abs t.weight + sizes ts
