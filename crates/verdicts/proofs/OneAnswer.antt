-- `verdict` has one possible answer for each input: two that its contract allows are equal.
use Rattle.std.proofs.Common.{◌≡◌, sym, ◌∙◌, Result, Ok, Err}
use Rattle.definitions.specs.declared.Refusal.{Refusal}
use Rattle.verdicts.specs.Said.{said_evaluated}
use Rattle.verdicts.specs.declared.Evaluated.{Evaluated}
use Rattle.verdicts.specs.declared.Evaluated.TheVariants.{Constraint, Objective}
use Rattle.verdicts.proofs.verdict.Reads as verdict

-- an answer is known by what it says
pub said-evaluated : (r r' : Result Evaluated Refusal) → said_evaluated r ≡ said_evaluated r' → r ≡ r'
said-evaluated (Err x) (Err y) e = cc
said-evaluated (Err x) (Ok w) e = cc
said-evaluated (Ok v) (Err y) e = cc
said-evaluated (Ok (Constraint s h o)) (Ok (Constraint t i n)) e = cc
said-evaluated (Ok (Constraint s h o)) (Ok (Objective v n)) e = cc
said-evaluated (Ok (Objective v o)) (Ok (Constraint s h n)) e = cc
said-evaluated (Ok (Objective v o)) (Ok (Objective w n)) e = cc

pub verdict-one : (κs : _) (a : _) (r r' : _) (s s' : _) → verdict.Post κs a r s → verdict.Post κs a r' s' → r ≡ r'
verdict-one κs a r r' s s' p q = said-evaluated r r' (p ∙ sym q)
