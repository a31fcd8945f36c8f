-- Six columns that a call is lent to fill, as the table that they are.
use mathlib.Core.List.{List}
use Prim.Native.Nat.{ℕ}
use lib.IntN.{ℤ}
use denote.MutBor.{MutBor}
use Rattle.definitions.specs.Table.{Table, table}

abbrev pub mut_columns : {R : Type 0}
    → MutBor (List ℕ) × (MutBor (List ℕ) × (MutBor (List ℕ) × (MutBor (List ℤ) × (MutBor (List ℤ) × (MutBor (List ℕ) × R))))) → Table
mut_columns a = table a.0.now a.1.0.now a.1.1.0.now a.1.1.1.0.now a.1.1.1.1.0.now a.1.1.1.1.1.0.now
