-- The number that C is told is the refusal's, and 0 where the call accepted.
use mathlib.Core.Path.{◌≡◌, refl}
use mathlib.Core.List.{List}
use Rattle.definitions.specs.Row.{Line}
use Rattle.definitions.specs.Table.{Outcome, refused, accepted, counted}
use Rattle.definitions.specs.Accepts.{number_of}
use Rattle.table_answers.specs.ByValue.{table_answer}

pub told-number : (x : Outcome (List Line)) → (table_answer (counted x)).refusal ≡ number_of x
told-number (refused r) = refl
told-number (accepted ls) = refl
