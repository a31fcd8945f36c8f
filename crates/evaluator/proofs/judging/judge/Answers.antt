-- `evaluator::judge` meets its contract: its row under the words of both rows that are looked at, with no ones
-- (proofs/Judged.antt). Assumes nothing.
use Rattle.tables.specs.Lent.{table_of}
use Rattle.evaluator.proofs.Judged.{judged-is}
use Rattle.evaluator.proofs.judging.judge.Goals as goal

pub returns : goal.returns
returns c = judged-is (table_of c.args.t) c.args.row c.args.values.now c.args.known.now _ c.evaluate_row.ensures
