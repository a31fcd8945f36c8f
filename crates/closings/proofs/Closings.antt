-- What closes a sum of so many terms and of the size, by what the code tells apart.
use Prim.Native.Nat.{ℕ, ◌≤◌, ◌<◌}
use mathlib.Core.Path.{◌≡◌}
use mathlib.Core.Bool.{Bool, and-false}
use borrow.Author.Tests.{le-leb, lt-leb}
use lib.Dec.{leb}
use lib.IntN.{ℤ, pos}
use Rattle.definitions.specs.Limits.{weight_limit}
use Rattle.definitions.specs.Refusal.{refuse, accept, fault}
use Rattle.definitions.specs.Reader.{none, got}
use Rattle.definitions.specs.Table.{kind_number}
use Rattle.definitions.specs.Text.{comparison_of, kind_of, bound_of}
use Rattle.definitions.specs.declared.Kind.TheVariants.{Objective as objective}
use Rattle.definitions.specs.declared.OpbOperator.{OpbOperator}
use Rattle.definitions.specs.declared.Options.{Options}
use Rattle.columns.specs.Entries.{entry_of}
use Rattle.operators.specs.Bounds.{compared}
use Rattle.operators.proofs.BoundLaws.{compared-accept, compared-refuse}
use Rattle.closings.specs.Closed.{closed_by, ended_by}

-- a comparison of m bytes
module _ (o : Options) (terms size : ℕ) (p : OpbOperator) (z : ℤ) (c : Bool) (m : ℕ) where
  pub closed-heavy : weight_limit < size → none (fault 8) ≡ closed_by o terms size (got (comparison_of p z c) m)
  closed-heavy h = rw (lt-leb size weight_limit h)

  pub closed-beyond : refuse 8 ≡ compared (bound_of p z) → none (fault 8) ≡ closed_by o terms size (got (comparison_of p z c) m)
  closed-beyond e = rw (compared-refuse (bound_of p z) e, and-false (leb size weight_limit))

  pub closed-row : (b : ℤ) → size ≤ weight_limit → accept b ≡ compared (bound_of p z)
      → got (entry_of (kind_number (kind_of p)) 0 terms b) m ≡ closed_by o terms size (got (comparison_of p z c) m)
  closed-row b h e =
      let a = compared-accept (bound_of p z) b e in
      rw (le-leb size weight_limit h, a.0, a.1)

-- an ending of m bytes
module _ (o : Options) (terms size : ℕ) (c : Bool) (m : ℕ) where
  pub ended-heavy : weight_limit < size → none (fault 8) ≡ ended_by o terms size (got c m)
  ended-heavy h = rw (lt-leb size weight_limit h)

  pub ended-row : size ≤ weight_limit → got (entry_of (kind_number objective) 0 terms (pos 0)) m ≡ ended_by o terms size (got c m)
  ended-row h = rw (le-leb size weight_limit h)
