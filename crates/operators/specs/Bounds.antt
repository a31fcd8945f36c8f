-- What a comparison's number may become: a bound, or 8, "a result beyond signed 64 bits".
use Rattle.std.specs.Prelude.{cond, ℤ}
use Rattle.definitions.specs.Limits.{in_i64}
use Rattle.definitions.specs.Refusal.{Checked, refuse, accept}

unfoldable pub compared : ℤ → Checked ℤ
compared z = cond (in_i64 z) (accept z) (refuse 8)
