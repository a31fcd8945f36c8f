-- What is answered of a sum: how many terms it has, and how large they are together.
use Rattle.std.specs.Prelude.{ℕ, List, length, Result, Ok, Err}
use Rattle.definitions.specs.Reader.{Got, none, got}
use Rattle.definitions.specs.Row.{Term, sizes}
use Rattle.definitions.specs.declared.Fault.{Fault}
use Rattle.term_checks.specs.Sizes.{capped}
use Rattle.sums.specs.declared.Sum.{Sum}

pub record SumBrief : Type 0 where
  pub terms : ℕ
  pub size : ℕ

abbrev pub sum_brief : ℕ → ℕ → SumBrief
sum_brief n m = record { terms = n; size = m }

abbrev pub summed : Got (List Term) → Got SumBrief
summed (none e) = none e
summed (got ts n) = got (sum_brief (length ts) (capped (sizes ts))) n

abbrev pub said_sum : Result Sum Fault → Got SumBrief
said_sum (Ok r) = got (sum_brief r.terms r.size) r.taken
said_sum (Err e) = none e
