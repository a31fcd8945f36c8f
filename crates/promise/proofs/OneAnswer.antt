-- Two answers that the contract allows are equal, and so is what they leave in the output and in the tables lent.
use mathlib.Core.Path.{◌≡◌, sym, ◌∙◌}
use Rattle.definitions.specs.Table.{table}
use Rattle.foreseen.proofs.OneAnswer.{said-one}
use Rattle.promise.proofs.there_and_back.Reads as there_and_back

pub there-and-back-one : (κs : _) (a : _) (r r' : _) (s s' : _) → there_and_back.Post κs a r s → there_and_back.Post κs a r' s'
    → (r ≡ r')
    × (s.1.1.1.0.now ≡ s'.1.1.1.0.now)
    × (table s.1.1.1.1.0.now s.1.1.1.1.1.0.now s.1.1.1.1.1.1.0.now s.1.1.1.1.1.1.1.0.now
    s.1.1.1.1.1.1.1.1.0.now s.1.1.1.1.1.1.1.1.1.0.now
    ≡ table s'.1.1.1.1.0.now s'.1.1.1.1.1.0.now s'.1.1.1.1.1.1.0.now s'.1.1.1.1.1.1.1.0.now
    s'.1.1.1.1.1.1.1.1.0.now s'.1.1.1.1.1.1.1.1.1.0.now)
there-and-back-one κs a r r' s s' p q = (
  said-one r r' (p.answer ∙ sym q.answer),
  p.output ∙ sym q.output,
  p.tables
      ∙ sym q.tables,
)
