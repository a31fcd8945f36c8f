-- `word_length` meets its contract: two letters, or the three of `min`.
use native.Mathlib.Omega.{arith}
use Rattle.house_lengths.proofs.WordLaws.{word_two, word-three}
use Rattle.house_lengths.proofs.lines.word_length.Goals as goal

pub returns-in-1 : goal.returns-in-1
returns-in-1 c = word_two _ c.in-1.if-kind-lt1-own.false (omega (arith, c.in-1.if-kind-lt4-own.true))

pub returns-in_default : goal.returns-in_default
returns-in_default c = word-three _ (λ e. omega (arith, c.in_default.if-kind-lt1-own.true)) (λ e. omega (arith, c.in_default.if-kind-lt1-own.true)) (λ e. omega (arith, c.in_default.if-kind-lt1-own.true))

pub returns-in_default-2 : goal.returns-in_default-2
returns-in_default-2 c = word-three _ (λ e. omega (arith, c.in_default.if-kind-lt4-own.false)) (λ e. omega (arith, c.in_default.if-kind-lt4-own.false)) (λ e. omega (arith, c.in_default.if-kind-lt4-own.false))
