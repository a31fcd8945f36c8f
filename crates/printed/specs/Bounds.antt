-- The bound that is printed, from the row's bound, the sum of its weights, and the sum of those that the bound falls
-- by.
use Rattle.std.specs.Prelude.{ℕ, cond, leb, ℤ, pos, ◌+ℤ◌, ◌-ℤ◌, Option, Some, None}
use Rattle.definitions.specs.Limits.{weight_limit, in_i64}
use Rattle.definitions.specs.Refusal.{Checked, refuse, accept}
use Rattle.definitions.specs.Table.{and_then}
use Rattle.definitions.specs.declared.Kind.{Kind}
use Rattle.definitions.specs.Back.{is_goal}
use Rattle.printed.specs.Kinds.{is_at_most}

-- 8: "a result beyond signed 64 bits"
unfoldable pub within : ℤ → Checked ℤ
within z = cond (in_i64 z) (accept z) (refuse 8)

abbrev pub said_bound : Option ℤ → Checked ℤ
said_bound (Some z) = accept z
said_bound None = refuse 8

-- "bound = weight sum less bound"
abbrev pub bound_before : Kind → ℤ → ℕ → ℤ
bound_before k b total = cond (is_at_most k) (pos total -ℤ b) b

-- "the bound falls by w; an objective's offset grows by w"
abbrev pub bound_after : Kind → ℤ → ℕ → ℤ
bound_after k b fall = cond (is_goal k) (b +ℤ pos fall) (b -ℤ pos fall)

-- a sum of weights above M is beyond, too
abbrev pub fallen_bound : Kind → ℕ → ℤ → Checked ℤ
fallen_bound k fall b = cond (leb fall weight_limit) (within (bound_after k b fall)) (refuse 8)

unfoldable pub printed_bound : Kind → ℤ → ℕ → ℕ → Checked ℤ
printed_bound k b total fall =
    cond (leb total weight_limit) (and_then (within (bound_before k b total)) (fallen_bound k fall)) (refuse 8)
