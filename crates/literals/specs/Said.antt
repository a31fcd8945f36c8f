-- What each answer of src/lib.rt says, by 01's numbers: a file number, an index, a code, or refusal 5.
use Rattle.std.specs.Prelude.{ℕ, Option, Some, None}
use Rattle.definitions.specs.Refusal.{Checked, refuse, accept}
use Rattle.literals.specs.declared.FileNumber.{FileNumber}
use Rattle.literals.specs.declared.Var.{Var}
use Rattle.literals.specs.declared.Lit.{Lit}

abbrev pub said_file_number : Option FileNumber → Checked ℕ
said_file_number (Some n) = accept n.0
said_file_number None = refuse 5

abbrev pub said_var : Option Var → Checked ℕ
said_var (Some v) = accept v.0
said_var None = refuse 5

abbrev pub said_lit : Option Lit → Checked ℕ
said_lit (Some l) = accept l.0
said_lit None = refuse 5
