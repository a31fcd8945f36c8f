-- `put_remark` meets its contract: `* `, the text, and the line's end.
use Rattle.puts.proofs.SeveralLaws.{each-one, each-then}
use Rattle.writer.proofs.entries.put_remark.Goals as goal

pub returns : goal.returns
returns c =
    each-then (each-one c.put_text-from.ensures) (each-then (each-one c.put_text-end.ensures) (each-one c.put_text.ensures))
