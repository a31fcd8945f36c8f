-- Where a walk from the beginning of a file stands after some steps: each "takes the rest of the file from where the
-- last one stopped" (01).
use Rattle.std.specs.Prelude.{ℕ, zero, suc, List}
use Rattle.definitions.specs.Stepping.{step_at, offset_after}
use Rattle.definitions.specs.declared.Options.{Options}

abbrev pub stands_after : Options → List ℕ → ℕ → ℕ
stands_after o s zero = 0
stands_after o s (suc n) = offset_after (step_at o s (stands_after o s n)) (stands_after o s n)
