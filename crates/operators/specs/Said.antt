-- What each answer says: 01's number and values, as the definitions give them.
use Rattle.std.specs.Prelude.{ℕ, ℤ, Option, Some, None}
use Rattle.definitions.specs.Refusal.{fault, Checked, refuse, accept}
use Rattle.definitions.specs.Reader.{Got, none, got}
use Rattle.definitions.specs.declared.OpbOperator.{OpbOperator}

-- 6: "no operator after a sum"
abbrev pub said_operator : Option (OpbOperator × ℕ) → Got OpbOperator
said_operator (Some (p, n)) = got p n
said_operator None = none (fault 6)

-- 8: "a result beyond signed 64 bits"
abbrev pub said_bound : Option ℤ → Checked ℤ
said_bound (Some z) = accept z
said_bound None = refuse 8
