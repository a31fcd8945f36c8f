-- What filling one statement's terms answers, and what it leaves in the two columns.
use Rattle.std.specs.Prelude.{ℕ, ◌≡◌, List, ℤ, Result}
use Rattle.definitions.specs.declared.Refusal.{Refusal}
use Rattle.definitions.specs.Row.{Term}
use Rattle.definitions.specs.Table.{Outcome}
use Rattle.definitions.specs.Stepping.{terms_kept, terms_counted}
use Rattle.definitions.specs.Answers.{said_length}
use Rattle.sums.specs.Walked.{TermsFilled}

pub record FillsTerms (x : Outcome (List Term)) (w₀ : List ℤ) (l₀ : List ℕ) (r : Result ℕ Refusal) (w : List ℤ) (l : List ℕ) : Type 0 where
  pub answer : said_length r ≡ terms_counted x
  pub filled : TermsFilled (terms_kept x) w₀ l₀ w l
