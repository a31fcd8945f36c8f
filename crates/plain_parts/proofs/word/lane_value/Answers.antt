-- `word::lane_value` meets its contract: no mask lets through so much that a sum wraps.
use Prim.Native.Nat.{◌/◌}
use native.Mathlib.Omega.{arith}
use lib.Bits.{and_le_r}
use Rattle.plain_parts.proofs.LaneValues.{lower_bytes, lower_pairs, lower_half, pairs_of, fours_of, value-is}
use Rattle.plain_parts.proofs.word.lane_value.Goals as goal

pub overflow_mul-pairs : goal.overflow_mul-pairs
overflow_mul-pairs c = omega (arith, and_le_r c.args.y lower_bytes)

pub overflow_add-pairs : goal.overflow_add-pairs
overflow_add-pairs c = omega (arith, and_le_r c.args.y lower_bytes, and_le_r (c.args.y / 256) lower_bytes)

pub overflow_mul-fours : goal.overflow_mul-fours
overflow_mul-fours c = omega (arith, and_le_r (pairs_of c.args.y) lower_pairs)

pub overflow_add-fours : goal.overflow_add-fours
overflow_add-fours c = omega (
  arith,
  and_le_r (pairs_of c.args.y) lower_pairs,
  and_le_r (pairs_of c.args.y / 65536)
      lower_pairs,
)

pub overflow_mul-result : goal.overflow_mul-result
overflow_mul-result c = omega (arith, and_le_r (fours_of (pairs_of c.args.y)) lower_half)

pub overflow_add-result : goal.overflow_add-result
overflow_add-result c =
    let p = pairs_of c.args.y in
    omega (arith, and_le_r (fours_of p) lower_half, and_le_r p lower_pairs, and_le_r (p / 65536) lower_pairs)

pub returns : goal.returns
returns c = value-is c.args.y
