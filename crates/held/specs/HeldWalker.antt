-- What the functions over a walker promise: "a reader that holds the file's bytes" (01), at an offset.
use Rattle.std.specs.Prelude.{ℕ, List}
use Rattle.std.specs.Borrow.{Bor}
use Rattle.definitions.specs.declared.Options.{Options}
use Rattle.held.specs.declared.Walker.{Walker}

abbrev pub walker_at : Bor (List ℕ) → Options → ℕ → Walker
walker_at file options at = record { file = file; options = options; at = at }
