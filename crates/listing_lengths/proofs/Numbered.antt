-- A term that was read with a first index has a file number, so its fields have a length.
use mathlib.Core.Path.{◌≡◌}
use mathlib.Core.List.{List}
use Prim.Native.Nat.{ℕ, ◌+◌}
use borrow.Author.Tests.{le-leb}
use lib.ListN.{length}
use Rattle.definitions.specs.Limits.{file_number_limit}
use Rattle.definitions.specs.Refusal.{accept}
use Rattle.definitions.specs.Literal.{index_of, file_number}
use Rattle.definitions.specs.Walk.{item}
use Rattle.definitions.specs.Row.{Term}
use Rattle.definitions.specs.Text.{term_step}
use Rattle.definitions.specs.House.{term_fields}
use Rattle.definitions.specs.declared.Options.{Options}
use Rattle.definitions.proofs.Statements.{term-step-item}
use Rattle.laws.proofs.ReadRows.{weighted-good}
use Rattle.house_lengths.specs.Lengths.{term_length}

pub read_length : (o : Options) (s : List ℕ) (t : Term) (n : ℕ) → term_step o s ≡ item t n
    → term_length o.first t ≡ accept (length (term_fields o.first t))
unfolding file_number
read_length o s t n e =
    rw (le-leb (index_of t.code + o.first) file_number_limit (weighted-good o s t n (term-step-item o s t n e)).number)
