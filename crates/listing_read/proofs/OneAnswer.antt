-- What `list_read` leaves in the columns and in the output lent is determined by its contract.
use mathlib.Core.Path.{◌≡◌, sym, ◌∙◌}
use Rattle.definitions.specs.Table.{table}
use Rattle.listing_read.proofs.list_read.Reads as List-read

pub list-read-one : (κs : _) (a : _) (r r' : _) (s s' : _) → List-read.Post κs a r s → List-read.Post κs a r' s'
    → (table s.1.1.0.now s.1.1.1.0.now s.1.1.1.1.0.now s.1.1.1.1.1.0.now
    s.1.1.1.1.1.1.0.now s.1.1.1.1.1.1.1.0.now
    ≡ table s'.1.1.0.now s'.1.1.1.0.now s'.1.1.1.1.0.now s'.1.1.1.1.1.0.now
    s'.1.1.1.1.1.1.0.now s'.1.1.1.1.1.1.1.0.now)
    × (s.1.1.1.1.1.1.1.1.0.now ≡ s'.1.1.1.1.1.1.1.1.0.now)
list-read-one κs a r r' s s' p q = (p.tables ∙ sym q.tables, p.output ∙ sym q.output)
