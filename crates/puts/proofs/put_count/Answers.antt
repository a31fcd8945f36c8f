-- `put_count` meets its contract: the place that the print comes to (proofs/LandLaws.antt).
use Rattle.puts.proofs.LandLaws.{print-lands}
use Rattle.puts.proofs.put_count.Goals as goal

pub returns : goal.returns
returns c =
    print-lands _ _ _ c.print_count.result c.print_count.ensures c.unwrap_or.ensures
