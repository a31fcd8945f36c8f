-- `normaliser::fill::fill_terms` meets its contract. The loop's invariant: the first i terms, normal, stand in both
-- columns (`Written`, proofs/NormalTerms.antt). Assumes nothing.
use Prim.Native.Nat.{ℕ}
use lib.IntN.{ℤ}
use Rattle.definitions.specs.Row.{Term, weight_of, literal_of}
use Rattle.definitions.specs.Normal.{normal_term}
use Rattle.normaliser.proofs.NormalTerms.{Written}
use Rattle.normaliser.proofs.fill.fill_terms.Given as goal

abbrev pub weight_to : Term → ℤ
weight_to t = weight_of (normal_term t)

abbrev pub literal_to : Term → ℕ
literal_to t = literal_of (normal_term t)

abbrev pub invariant-loop-i : goal.invariant-loop-i
invariant-loop-i l =
    Written weight_to l.weights l.literals l.initial.outweights l.outweights l.i
    × Written literal_to l.weights l.literals l.initial.outliterals l.outliterals l.i
