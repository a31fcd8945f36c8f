use Rattle.std.proofs.Common.{rules}
use Rattle.streams.proofs.Counts.{read_more}
use Rattle.streams.proofs.fill.Goals as goal

pub loop-done-preserved : goal.loop-done-preserved
loop-done-preserved g c = record {
  room = search rules;
  within = search rules;
  consumed = read_more _ _ _ _ _ _ _ _ c.loop-done.invariant.within c.in_ok-n.ensures.bound.0 c.loop-done.invariant.consumed c.in_ok-n.ensures.bytes.0;
}
