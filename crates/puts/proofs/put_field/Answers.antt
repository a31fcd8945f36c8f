-- `put_field` meets its contract: a tab before the count that was printed behind it, or neither (proofs/LandLaws.antt).
use native.Mathlib.Omega.{arith}
use Rattle.definitions.specs.Bytes.{tab}
use Rattle.definitions.specs.Number.{decimal}
use Rattle.definitions.specs.House.{field}
use Rattle.puts.proofs.LandLaws.{stays, byte_put, byte-stays}
use Rattle.puts.proofs.put_field.Goals as goal

pub returns-then-at-out : goal.returns-then-at-out
returns-then-at-out c =
    stays (field (decimal c.args.m)) c.args.at c.args.out.now (omega (arith, c.if-at-out.true))

pub returns-in_default : goal.returns-in_default
returns-in_default c =
    byte-stays tab (decimal c.args.m) c.args.at c.args.out.now _ _ c.print_count.ensures c.in_default.is

pub returns : goal.returns
returns c =
    byte_put tab (decimal c.args.m) c.args.at c.args.out.now _ _ c.print_count.ensures _ c.in-Some.is
