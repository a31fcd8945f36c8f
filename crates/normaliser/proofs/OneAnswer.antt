-- The public entry has one possible answer for each input, and leaves one content in each output column: two that its
-- contract allows are equal. The columns lent to be read are not changed.
use mathlib.Core.Path.{◌≡◌, sym, ◌∙◌}
use Rattle.definitions.specs.Table.{table}
use Rattle.definitions.proofs.KnownAnswers.{counted-known}
use Rattle.normaliser.proofs.normalise.Reads as normalise

pub normalise-one : (κs : _) (a : _) (r r' : _) (s s' : _) → normalise.Post κs a r s → normalise.Post κs a r' s'
    → (r ≡ r')
    × (table s.1.0.now s.1.1.0.now s.1.1.1.0.now s.1.1.1.1.0.now s.1.1.1.1.1.0.now s.1.1.1.1.1.1.0.now
    ≡ table s'.1.0.now s'.1.1.0.now s'.1.1.1.0.now s'.1.1.1.1.0.now s'.1.1.1.1.1.0.now s'.1.1.1.1.1.1.0.now)
normalise-one κs a r r' s s' p q = (counted-known r r' (p.answer ∙ sym q.answer), p.after ∙ sym q.after)
