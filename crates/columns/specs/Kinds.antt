-- The number of a row in the column of kinds: of a read row that is no comment, and what a comment has in the other
-- columns.
use Rattle.std.specs.Prelude.{ℕ, cond, eqb}
use Rattle.definitions.specs.declared.Kind.{Kind}
use Rattle.definitions.specs.declared.Kind.TheVariants.{AtLeast as at_least, AtMost as at_most, Equal as equal, Objective as objective}

-- 1 at least, 2 at most, 3 equal, 4 objective
unfoldable pub read_kind : ℕ → Kind
read_kind n = cond (eqb n 1) at_least (cond (eqb n 2) at_most (cond (eqb n 3) equal objective))

-- a comment has no terms: its count is that of its bytes
abbrev pub terms_of_kind : ℕ → ℕ → ℕ
terms_of_kind k n = cond (eqb k 0) 0 n

-- what stands in the column of firsts: a row's first term is the count of terms before it, a comment's its offset
abbrev pub first_of_kind : ℕ → ℕ → ℕ → ℕ
first_of_kind k offset before = cond (eqb k 0) offset before
