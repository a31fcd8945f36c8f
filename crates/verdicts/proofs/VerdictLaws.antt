-- What is found for a row is the verdict on its sum.
use mathlib.Core.Path.{◌≡◌, refl}
use Prim.Native.Nat.{ℕ}
use Rattle.definitions.specs.Row.{Row}
use Rattle.definitions.specs.declared.Kind.{Kind}
use Rattle.definitions.specs.declared.Kind.TheVariants.{AtLeast as at_least, AtMost as at_most, Equal as equal, Objective as objective}
use Rattle.definitions.specs.Meaning.{Assignment, sum_of, holds, value_of}
use Rattle.definitions.specs.Evaluate.{found_by}
use Rattle.verdicts.specs.Verdicts.{verdict_of}

pub found-by-verdict : (a : Assignment) (ones : ℕ) (r : Row)
    → found_by r.kind a ones r ≡ verdict_of r.kind (sum_of a r.terms) r.bound ones
unfolding holds value_of
found-by-verdict a ones r = by r.kind refl
  where
    by : (k : Kind) → r.kind ≡ k → found_by r.kind a ones r ≡ verdict_of r.kind (sum_of a r.terms) r.bound ones
    by at_least e = rw e
    by at_most e = rw e
    by equal e = rw e
    by objective e = rw e
