-- What is a refusal? A number, and the place that belongs to it (01, "What each number says").
use Rattle.std.specs.Prelude.{ℕ, ◌+◌, min}
use Rattle.definitions.specs.Limits.{needed_limit}
pub use Rattle.definitions.specs.declared.Refusal.{Refusal}
pub use Rattle.definitions.specs.declared.Fault.{Fault}

abbrev pub refusal : ℕ → ℕ → Refusal
refusal n p = record { number = n; place = p }

-- the same refusal, n bytes further on
abbrev pub further : ℕ → Refusal → Refusal
further n r = refusal r.number (n + r.place)

-- what a refused piece of a statement carries: who reads the statement knows its place
abbrev pub fault : ℕ → Fault
fault n = record { number = n }

-- the refusal of a statement by one of its pieces, k blanks on: the place is the statement's first byte
abbrev pub fault_at : ℕ → Fault → Refusal
fault_at k e = refusal e.number k

-- a sum is a piece, too
abbrev pub fault_of : Refusal → Fault
fault_of r = fault r.number

-- "A needed number above 18,446,744,073,709,551,615 is given as that one."
unfoldable pub needed : ℕ → ℕ
needed n = min n needed_limit

-- a value, or the number of a refusal whose place the caller knows
pub data Checked (A : Type 0) : Type 0 where
  refuse : ℕ → Checked A
  accept : A → Checked A
