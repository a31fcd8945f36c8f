-- What normalising adds to the bound of a row with these weights. proofs/Rises.antt ties it to the definition over
-- terms.
use Rattle.std.specs.Prelude.{ℕ, suc, ◌+◌, min, List, [], ◌∷◌, ℤ, pos, negsuc, neg_ℤ}
use Rattle.definitions.specs.Limits.{weight_limit}
use Rattle.definitions.specs.declared.Kind.{Kind}
use Rattle.definitions.specs.declared.Kind.TheVariants.{AtLeast as at_least, AtMost as at_most, Equal as equal, Objective as objective}

-- -w of a negative weight w, 0 of any other
abbrev pub rise_of : ℤ → ℕ
rise_of (pos n) = 0
rise_of (negsuc n) = suc n

-- what the sum of a row with these weights grows by
unfoldable pub weight_rises : List ℤ → ℕ
weight_rises [] = 0
weight_rises (w ∷ ws) = rise_of w + weight_rises ws

-- what is added to the bound: "a bound grows by -w, an objective's offset falls by -w"
abbrev pub shift_by : Kind → ℕ → ℤ
shift_by at_least n = pos n
shift_by at_most n = pos n
shift_by equal n = pos n
shift_by objective n = neg_ℤ (pos n)

-- of a column of weights: those of a row that is normalised are M together, at most, and for others M is as good
abbrev pub shift_of : Kind → List ℤ → ℤ
shift_of k ws = shift_by k (min (weight_rises ws) weight_limit)
