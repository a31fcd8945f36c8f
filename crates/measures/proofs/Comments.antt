-- Laws of a comment's text: whether it holds an LF, and the length of its line.
use mathlib.Core.Path.{◌≡◌, refl}
use mathlib.Core.Bool.{Bool, true, false, not, ◌&&◌, ◌||◌}
use mathlib.Core.List.{List, [], ◌∷◌}
use Prim.Native.Nat.{ℕ, ◌+◌, ◌-◌, ◌≤◌}
use native.Mathlib.Omega.{arith}
use lib.Dec.{leb, eqb}
use lib.ListN.{length, take, drop}
use Rattle.std.specs.List.{list_any}
use Rattle.definitions.specs.Limits.{needed_limit}
use Rattle.definitions.specs.Refusal.{refuse, accept, needed}
use Rattle.definitions.specs.Write.{one_line}
use Rattle.measures.specs.Entries.{comment_measured}
use Rattle.printed.proofs.OneEntry.{part-is}

one-line-any : (s : List ℕ) → one_line s ≡ not (list_any (λ b. eqb b 10) s)
unfolding one_line
one-line-any [] = refl
one-line-any (b ∷ s) = by (eqb b 10) (one-line-any s)
  where
    by : (t : Bool) → one_line s ≡ not (list_any (λ b. eqb b 10) s) → not t && one_line s ≡ not (t || list_any (λ b. eqb b 10) s)
    by true e = refl
    by false e = e

-- ---- the length of its line, as the code asks

module _ (f n : ℕ) (text : List ℕ) where
  pub comment-outside : leb (f + n) (length text) ≡ false → refuse 11 ≡ comment_measured f n text
  comment-outside e = rw e

  module _ (e : leb (f + n) (length text) ≡ true) where
    pub comment-broken : list_any (λ b. eqb b 10) (take (f + n - f) (drop f text)) ≡ true → refuse 15 ≡ comment_measured f n text
    comment-broken b = rw (e, one-line-any, rw (part-is f n text) at b)

    pub comment-whole : n + 3 ≤ needed_limit → list_any (λ b. eqb b 10) (take (f + n - f) (drop f text)) ≡ false
        → accept (record { length = n + 3; lines = 1; terms = 0 }) ≡ comment_measured f n text
    unfolding needed
    comment-whole h b = let k : needed (n + 3) ≡ n + 3 = omega arith in rw (e, one-line-any, rw (part-is f n text) at b, k)
