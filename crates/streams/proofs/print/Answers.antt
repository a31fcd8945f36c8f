use Rattle.std.proofs.Common.{rules}
use Rattle.streams.proofs.Counts.{wrote_more}
use Rattle.streams.proofs.print.Goals as goal

pub loop-written-preserved : goal.loop-written-preserved
loop-written-preserved g c = record {
  within = search rules;
  appended = wrote_more _ _ _ _ _ _ c.loop-written.invariant.appended c.in_ok-taken.ensures.bytes;
}
