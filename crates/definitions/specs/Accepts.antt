-- What does the number of an answer tell? 0 where a call accepted, else the refusal's number. Words of a theorem:
-- crates/laws/proofs/ZeroAccepts has the statement, that it is 0 exactly where the call accepted, whatever the call.
use Rattle.std.specs.Prelude.{ℕ, ◌≡◌}
use Rattle.definitions.specs.Table.{Outcome, refused, accepted}

abbrev pub number_of : {A : Type 0} → Outcome A → ℕ
number_of (refused r) = r.number
number_of (accepted a) = 0

pub record Accepted {A : Type 0} (x : Outcome A) : Type 0 where
  pub found : A
  pub is : x ≡ accepted found

-- the number n is 0 exactly where the outcome x is no refusal
pub record Tells {A : Type 0} (n : ℕ) (x : Outcome A) : Type 0 where
  pub of_zero : n ≡ 0 → Accepted x
  pub of-accepted : Accepted x → n ≡ 0
