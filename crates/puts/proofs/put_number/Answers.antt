-- `put_number` meets its contract: the place that the print comes to (proofs/LandLaws.antt).
use mir.Facts.{to_z-of_z}
use Rattle.puts.proofs.LandLaws.{print-lands}
use Rattle.puts.proofs.put_number.Goals as goal

pub returns : goal.returns
returns c =
    print-lands _ _ _ c.print_number.result (rw (to_z-of_z c.ranges.z) at c.print_number.ensures) c.unwrap_or.ensures
