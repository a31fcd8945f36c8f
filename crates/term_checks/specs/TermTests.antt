-- What is asked of the terms of a row, in words of the two columns that hold them. proofs/Terms.antt ties each to the
-- definition over terms.
use Rattle.std.specs.Prelude.{ℕ, ◌+◌, Bool, true, ◌&&◌, List, [], ◌∷◌, ℤ, nat_abs}
use Rattle.definitions.specs.Literal.{index_of, is_index}

-- a test of each code
unfoldable pub every : (ℕ → Bool) → List ℕ → Bool
every p [] = true
every p (c ∷ cs) = p c && every p cs

-- not "an index above its limit"
abbrev pub codes_indexed : List ℕ → Bool
codes_indexed cs = every (λ c. is_index (index_of c)) cs

-- "sum of absolute weights in a row"
unfoldable pub weight_sizes : List ℤ → ℕ
weight_sizes [] = 0
weight_sizes (w ∷ ws) = nat_abs w + weight_sizes ws
