-- What a walk over a sum answers, and what it leaves in two lent columns.
use Rattle.std.specs.Prelude.{ℕ, min, ◌≡◌, cond, List, map, ltb, length, take, set, ℤ, Result}
use Rattle.definitions.specs.Lists.{over}
use Rattle.definitions.specs.Row.{Term, weight_of, literal_of}
use Rattle.definitions.specs.Text.{sum}
use Rattle.definitions.specs.Stepping.{columns_room}
use Rattle.definitions.specs.declared.Options.{Options}
use Rattle.definitions.specs.declared.Fault.{Fault}
use Rattle.sums.specs.Brief.{summed, said_sum}
use Rattle.sums.specs.Met.{met_terms}
use Rattle.sums.specs.declared.Sum.{Sum}

-- terms from the front of two columns, the rest as it was
pub record TermsFilled (ts : List Term) (w₀ : List ℤ) (l₀ : List ℕ) (w : List ℤ) (l : List ℕ) : Type 0 where
  pub weights : w ≡ over (map weight_of ts) w₀
  pub literals : l ≡ over (map literal_of ts) l₀

-- the same, as far as both columns have room
abbrev pub TermsPut : List Term → List ℤ → List ℕ → List ℤ → List ℕ → Type 0
TermsPut ts w₀ l₀ w l = TermsFilled (take (columns_room w₀ l₀) ts) w₀ l₀ w l

-- a term at a place that both columns have, or neither changed
pub record TermPut (at : ℕ) (weight : ℤ) (code : ℕ) (w₀ : List ℤ) (l₀ : List ℕ) (w : List ℤ) (l : List ℕ) : Type 0 where
  pub weights : w ≡ cond (ltb at (min (length w₀) (length l₀))) (set w₀ at weight) w₀
  pub literals : l ≡ cond (ltb at (min (length w₀) (length l₀))) (set l₀ at code) l₀

-- what the sum is, and the terms that were met
pub record SumWalked (o : Options) (s : List ℕ) (w₀ : List ℤ) (l₀ : List ℕ) (r : Result Sum Fault) (w : List ℤ) (l : List ℕ) : Type 0 where
  pub answer : said_sum r ≡ summed (sum o s)
  pub filled : TermsPut (met_terms o s) w₀ l₀ w l
