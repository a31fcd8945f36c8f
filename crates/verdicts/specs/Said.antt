-- What each answer of the evaluator says: 01's number with its place, or what was found.
use Rattle.std.specs.Prelude.{Result, Ok, Err}
use Rattle.definitions.specs.declared.Refusal.{Refusal}
use Rattle.definitions.specs.Table.{Outcome, refused, accepted}
use Rattle.definitions.specs.Evaluate.{Evaluated as Found, constraint, goal}
use Rattle.verdicts.specs.declared.Evaluated.{Evaluated}
use Rattle.verdicts.specs.declared.Evaluated.TheVariants.{Constraint, Objective}

abbrev pub said_found : Evaluated → Found
said_found (Constraint sum holds ones) = constraint sum holds ones
said_found (Objective value ones) = goal value ones

abbrev pub said_evaluated : Result Evaluated Refusal → Outcome Found
said_evaluated (Err r) = refused r
said_evaluated (Ok v) = accepted (said_found v)
