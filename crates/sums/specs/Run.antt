-- What a run of plain terms leaves counted and put.
use Rattle.std.specs.Prelude.{ℕ, ◌+◌, ◌≡◌, List, drop, ℤ, nat_abs}
use Rattle.definitions.specs.Walk.{item}
use Rattle.definitions.specs.Row.{Term}
use Rattle.definitions.specs.Text.{term_step}
use Rattle.definitions.specs.declared.Options.{Options}
use Rattle.term_checks.specs.Sizes.{capped}
use Rattle.sums.specs.Walked.{TermPut}
use Rattle.sums.specs.declared.run.PlainRun.{PlainRun}

-- a walk that began with so many terms and so much size counted stands at an offset, with more counted, and has put
-- each term that it passed into the columns
module _ (o : Options) (s : List ℕ) (count₀ size₀ : ℕ) (w₀ : List ℤ) (l₀ : List ℕ) where
  pub data Ran : ℕ → ℕ → ℕ → List ℤ → List ℕ → Type 0 where
    begun : Ran 0 count₀ size₀ w₀ l₀
    further : {at count size : ℕ} {w w' : List ℤ} {l l' : List ℕ} (t : Term) (n : ℕ) → Ran at count size w l
        → term_step o (drop at s) ≡ item t n → TermPut count t.weight t.code w l w' l'
        → Ran (at + n) (count + 1) (capped (size + nat_abs t.weight)) w' l'

abbrev pub RunSays : Options → List ℕ → ℕ → ℕ → List ℤ → List ℕ → PlainRun → List ℤ → List ℕ → Type 0
RunSays o s count size w₀ l₀ r w l = Ran o s count size w₀ l₀ r.taken r.terms r.size w l
