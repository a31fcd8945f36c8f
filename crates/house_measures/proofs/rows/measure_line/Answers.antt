-- `measure_line` meets its contract: an index above its limit, a file number beyond u32, or the terms and the length of
-- the line (proofs/Entries.antt). The bound is within 64 bits.
use native.Mathlib.Omega.{arith}
use mir.Syntax.{w64}
use mir.Val.{SFits}
use mir.Facts.{to_z-of_z}
use Rattle.std.proofs.Common.{rules}
use Rattle.house_measures.proofs.Entries.{by_line}
use Rattle.house_measures.proofs.rows.measure_line.Goals as goal

pub returns : goal.returns
returns c =
    let b : SFits w64 c.args.entry.bound = search rules in
    grind (arith, by_line, to_z-of_z b)
