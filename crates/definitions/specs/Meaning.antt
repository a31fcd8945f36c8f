-- What does a row say of an assignment? "Meaning of sums, 'at least' and 'equal' is the public OPB document's":
-- variables take 0 or 1, `~x` is 1 - x, a sum is the sum of weight times value, as whole numbers.
use Rattle.std.specs.Prelude.{ℕ, zero, suc, ◌+◌, ◌*◌, ◌/◌, ◌%◌, ◌^◌, Bool, true, cond, not, ◌&&◌, List, [], ◌∷◌, eqb, ltb, ℤ, pos, ◌+ℤ◌, length, get_or}
use Rattle.std.specs.Int.Signed.{le_z}
use Rattle.definitions.specs.Literal.{negated, index_of}
use Rattle.definitions.specs.Row.{Term, Kind, at_least, at_most, equal, objective, Row}

abbrev pub Assignment : Type 0
Assignment = ℕ → Bool

unfoldable pub is_true : Assignment → ℕ → Bool
is_true a c = cond (negated c) (not (a (index_of c))) (a (index_of c))

-- the sum of the weights whose literal is true
unfoldable pub sum_of : Assignment → List Term → ℤ
sum_of a [] = pos 0
sum_of a (t ∷ ts) = cond (is_true a t.code) t.weight (pos 0) +ℤ sum_of a ts

abbrev pub holds_by : Kind → ℤ → ℤ → Bool
holds_by at_least s b = le_z b s
holds_by at_most s b = le_z s b
holds_by equal s b = le_z s b && le_z b s
holds_by objective s b = true

unfoldable pub holds : Assignment → Row → Bool
holds a r = holds_by r.kind (sum_of a r.terms) r.bound

-- "for an objective, the sum plus the bound column"
unfoldable pub value_of : Assignment → Row → ℤ
value_of a r = sum_of a r.terms +ℤ r.bound

-- "An assignment is lent as 64-bit words; variable v is bit v mod 64 of word v/64."
unfoldable pub assigned : List ℕ → Assignment
assigned ws v = eqb (get_or ws (v / 64) 0 / 2 ^ (v % 64) % 2) 1

-- how many of the first n variables are true
unfoldable pub true_below : Assignment → ℕ → ℕ
true_below a zero = 0
true_below a (suc n) = true_below a n + cond (a n) 1 0

-- "the number of ones in the assignment's words"
unfoldable pub ones_of : List ℕ → ℕ
ones_of ws = true_below (assigned ws) (64 * length ws)

-- "Variables may stay unknown, so a second row of words says which are known" (02, A1): ws are the values, ks the known
-- words. A variable beyond the shorter row is not known.
unfoldable pub is_known : List ℕ → List ℕ → ℕ → Bool
is_known ws ks v = ltb v (64 * length ws) && assigned ks v
