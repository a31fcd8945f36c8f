-- Each call has one possible answer for each input, and leaves one content in the columns that it was lent to fill: two
-- that its contract allows are equal.
use mathlib.Core.Path.{◌≡◌, sym, ◌∙◌}
use Rattle.definitions.specs.Table.{table}
use Rattle.opb_tables.proofs.opb_count.Reads as opb-count
use Rattle.opb_tables.proofs.opb_read.Reads as opb-read
use Rattle.opb_tables.proofs.opb_normalise.Reads as opb-normalise

pub opb-count-one : (κs : _) (a : _) (r r' : _) (s s' : _) → opb-count.Post κs a r s → opb-count.Post κs a r' s' → r ≡ r'
opb-count-one κs a r r' s s' p q = p ∙ sym q

pub opb-read-one : (κs : _) (a : _) (r r' : _) (s s' : _) → opb-read.Post κs a r s → opb-read.Post κs a r' s'
    → (r ≡ r')
    × (table s.1.1.0.now s.1.1.1.0.now s.1.1.1.1.0.now s.1.1.1.1.1.0.now
    s.1.1.1.1.1.1.0.now s.1.1.1.1.1.1.1.0.now
    ≡ table s'.1.1.0.now s'.1.1.1.0.now s'.1.1.1.1.0.now s'.1.1.1.1.1.0.now
    s'.1.1.1.1.1.1.0.now s'.1.1.1.1.1.1.1.0.now)
opb-read-one κs a r r' s s' p q = (p.answer ∙ sym q.answer, p.after ∙ sym q.after)

pub opb-normalise-one : (κs : _) (a : _) (r r' : _) (s s' : _) → opb-normalise.Post κs a r s → opb-normalise.Post κs a r' s'
    → (r ≡ r')
    × (table s.1.1.1.1.1.1.0.now s.1.1.1.1.1.1.1.0.now s.1.1.1.1.1.1.1.1.0.now
    s.1.1.1.1.1.1.1.1.1.0.now s.1.1.1.1.1.1.1.1.1.1.0.now s.1.1.1.1.1.1.1.1.1.1.1.0.now
    ≡ table s'.1.1.1.1.1.1.0.now s'.1.1.1.1.1.1.1.0.now s'.1.1.1.1.1.1.1.1.0.now
    s'.1.1.1.1.1.1.1.1.1.0.now s'.1.1.1.1.1.1.1.1.1.1.0.now s'.1.1.1.1.1.1.1.1.1.1.1.0.now)
opb-normalise-one κs a r r' s s' p q = (p.answer ∙ sym q.answer, p.after ∙ sym q.after)
