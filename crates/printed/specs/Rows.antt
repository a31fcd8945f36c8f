-- One row in the code's words: the row of a shape, and the operator that is printed for its kind.
use Rattle.std.specs.Prelude.{ℕ, cond, List, [], ◌∷◌, ℤ}
use Rattle.definitions.specs.Bytes.{greater, equals}
use Rattle.definitions.specs.Row.{Row, row_of}
use Rattle.definitions.specs.declared.Kind.{Kind}
use Rattle.printed.specs.declared.kinds.Shape.{Shape}
use Rattle.printed.specs.Kinds.{is_equal}
use Rattle.shown.specs.Terms.{own_terms}

-- the row of a shape, from its part of the two columns
abbrev pub row_on : Shape → List ℤ → List ℕ → Row
row_on s ws cs = row_of s.kind s.bound (own_terms s.unit ws cs)

-- "An 'at most' row is written with ... `>=`"
abbrev pub operator_text : Kind → List ℕ
operator_text k = cond (is_equal k) (equals ∷ []) (greater ∷ equals ∷ [])
