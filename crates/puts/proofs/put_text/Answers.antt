-- `put_text` meets its contract: the place that the print comes to (proofs/LandLaws.antt).
use Rattle.puts.proofs.LandLaws.{print-lands}
use Rattle.puts.proofs.put_text.Goals as goal

pub returns : goal.returns
returns c =
    print-lands _ _ _ c.print_text.result c.print_text.ensures c.unwrap_or.ensures
