-- `word::first_half` meets its contract: each byte fits its lane, and the four lanes are the four bytes.
use native.Mathlib.Omega.{arith}
use Rattle.plain_parts.proofs.LaneLaws.{half_is}
use Rattle.plain_parts.proofs.word.first_half.Goals as goal

pub overflow_cast-result : goal.overflow_cast-result
overflow_cast-result c = omega (arith, c.type_inv.s 0)

pub overflow_cast-result-2 : goal.overflow_cast-result-2
overflow_cast-result-2 c = omega (arith, c.type_inv.s 1)

pub overflow_cast-result-3 : goal.overflow_cast-result-3
overflow_cast-result-3 c = omega (arith, c.type_inv.s 2)

pub overflow_cast-result-4 : goal.overflow_cast-result-4
overflow_cast-result-4 c = omega (arith, c.type_inv.s 3)

pub returns : goal.returns
returns c =
    half_is c.args.s.now c.requires (λ i. (c.type_inv.s i).fits)
