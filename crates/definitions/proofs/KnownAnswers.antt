-- Is an answer known by what it says? The answers that several calls share are.
use Rattle.std.specs.Prelude.{ℕ, Result, Ok, Err}
use mathlib.Core.Path.{◌≡◌}
use Rattle.definitions.specs.Refusal.{Refusal}
use Rattle.definitions.specs.Answers.{said_counted, said_length}
use Rattle.definitions.specs.declared.Totals.{Totals}
use Rattle.definitions.proofs.Truths.{never}

pub counted-known : (r r' : Result Totals Refusal) → said_counted r ≡ said_counted r' → r ≡ r'
counted-known (Ok n) (Ok m) e = cc
counted-known (Ok n) (Err j) e = never cc
counted-known (Err i) (Ok m) e = never cc
counted-known (Err i) (Err j) e = cc

pub length-known : (r r' : Result ℕ Refusal) → said_length r ≡ said_length r' → r ≡ r'
length-known (Err i) (Err j) e = cc
length-known (Err i) (Ok n) e = never cc
length-known (Ok n) (Err i) e = never cc
length-known (Ok n) (Ok m) e = cc
