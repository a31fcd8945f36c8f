-- Absolute weights added up to a cap.
use Rattle.std.specs.Prelude.{ℕ, min}

-- one more than M: a sum of absolute weights that has reached it is above M, whatever follows
abbrev pub size_cap : ℕ
size_cap = 9_223_372_036_854_775_808

abbrev pub capped : ℕ → ℕ
capped n = min n size_cap
