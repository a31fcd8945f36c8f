-- When is a file of one constraint well formed, and within the limits? Where tests that are computed say so.
use Prim.Native.Nat.{ℕ, ◌-◌}
use Prim.Native.String as S
use mathlib.Core.Path.{◌≡◌, refl}
use mathlib.Core.Bool.{Bool, true, ◌&&◌}
use mathlib.Core.List.{List, [], ◌∷◌, map}
use native.Mathlib.Omega.{arith}
use borrow.Author.Tests.{leb-true, ltb-true}
use lib.Dec.{leb, ltb}
use lib.ListN.{length}
use Rattle.definitions.specs.Lists.{AllOf}
use Rattle.definitions.specs.Limits.{file_limit, index_limit, weight_limit, in_i64}
use Rattle.definitions.specs.Bytes.{bytes}
use Rattle.document.specs.Document as D
use Rattle.document.specs.DocumentRead.{weights_of, StatementWithin, WithinLimits}
use Rattle.definitions.proofs.Truths.{both}
use Rattle.definitions.proofs.Each.{both-parts}

-- digits, the first apart, without a sign
unfoldable pub number_of : ℕ → S.String → D.Integer
number_of d ds = record { sign = D.unsigned; first = d; others = map (λ (b : ℕ). b - 48) (bytes ds) }

-- a weight on a variable
unfoldable pub on : D.Integer → ℕ → S.String → D.WeightedTerm
on w v vs = record { weight = w; gap = 0; first = v; others = map (λ (b : ℕ). b - 48) (bytes vs); behind = 0 }

-- a file of one constraint, at least b, with variables up to x1073741825
unfoldable pub one-constraint : List (List ℕ) → D.WeightedTerm → List D.WeightedTerm → D.Integer → D.File
one-constraint cs t ts b = record {
  variables = number_of 1 "073741825";
  constraints = number_of 1 "";
  comments = cs;
  objective = [];
  body = D.constraint (record { sum = record { first = t; others = ts }; relation = D.at_least; gap = 1; bound = b; behind = 0 }) ∷ [];
}

-- ---- well formed

unfoldable pub all_small : List ℕ → Bool
all_small [] = true
all_small (d ∷ ds) = ltb d 10 && all_small ds

are-digits : (ds : List ℕ) → all_small ds ≡ true → AllOf D.IsDigit ds
unfolding all_small
are-digits [] e = tt
are-digits (d ∷ ds) e = let h = both (ltb d 10) (all_small ds) e in (ltb-true d 10 h.0, are-digits ds h.1)

good-number : (z : D.Integer) → all_small (z.first ∷ z.others) ≡ true → D.GoodInteger z
good-number z e = record { digits = are-digits (z.first ∷ z.others) e }

pub good-term : (t : D.WeightedTerm) → all_small (t.weight.first ∷ t.weight.others) ≡ true
    → all_small (t.first ∷ t.others) ≡ true → leb 1 (D.variable_of t) ≡ true
    → leb (D.variable_of t) 1_073_741_825 ≡ true → D.GoodTerm 1_073_741_825 t
good-term t w v l h = record {
  weight = good-number t.weight w;
  digits = are-digits (t.first ∷ t.others) v;
  low = leb-true 1 (D.variable_of t) l;
  high = leb-true (D.variable_of t) 1_073_741_825 h;
}

pub good-file : (t : D.WeightedTerm) (ts : List D.WeightedTerm) (b : D.Integer) → AllOf (D.GoodTerm 1_073_741_825) (t ∷ ts)
    → all_small (b.first ∷ b.others) ≡ true → D.WellFormed (one-constraint [] t ts b)
unfolding one-constraint number_of all_small D.digits_value D.constraint_count
good-file t ts b g e = record {
  variables = (good-number _ refl, refl);
  constraints = (good-number _ refl, refl);
  counted = refl;
  comments = tt;
  objective = tt;
  single = omega arith;
  body = (record { terms = g; bound = good-number b e }, tt);
}

-- ---- within the limits

pub within-file : (cs : List (List ℕ)) (t : D.WeightedTerm)
    → leb (length (D.file_text (one-constraint cs t [] (number_of 0 "")))) file_limit ≡ true
    → leb (weights_of (t ∷ [])) weight_limit ≡ true → leb (D.variable_of t - 1) index_limit ≡ true
    → WithinLimits (one-constraint cs t [] (number_of 0 ""))
unfolding one-constraint number_of D.statements_of D.integer_value D.digits_value in_i64
within-file cs t l w i = record {
  file = leb-true _ file_limit l;
  statements = (
    tt,
    both-parts StatementWithin (map D.comment cs) _ (by cs) (
      (
        record {
          weights = leb-true (weights_of (t ∷ [])) weight_limit w;
          indexes = (leb-true _ index_limit i, tt);
        },
        refl,
      ),
      tt,
    ),
  );
}
  where
    by : (cs : List (List ℕ)) → AllOf StatementWithin (map D.comment cs)
    by [] = tt
    by (t ∷ cs) = (tt, by cs)
