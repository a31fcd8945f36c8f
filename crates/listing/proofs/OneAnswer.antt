-- Two answers that the contract of `list_file` allows are equal, and so is what they leave in the columns and in the
-- output lent.
use mathlib.Core.Path.{◌≡◌, sym, ◌∙◌}
use Rattle.definitions.specs.Table.{table}
use Rattle.definitions.proofs.KnownAnswers.{length-known}
use Rattle.listing.proofs.list_file.Reads as list-file

pub list-file-one : (κs : _) (a : _) (r r' : _) (s s' : _) → list-file.Post κs a r s → list-file.Post κs a r' s'
    → (r ≡ r')
    × (table s.1.1.0.now s.1.1.1.0.now s.1.1.1.1.0.now s.1.1.1.1.1.0.now
    s.1.1.1.1.1.1.0.now s.1.1.1.1.1.1.1.0.now
    ≡ table s'.1.1.0.now s'.1.1.1.0.now s'.1.1.1.1.0.now s'.1.1.1.1.1.0.now
    s'.1.1.1.1.1.1.0.now s'.1.1.1.1.1.1.1.0.now)
    × (s.1.1.1.1.1.1.1.1.0.now ≡ s'.1.1.1.1.1.1.1.1.0.now)
list-file-one κs a r r' s s' p q =
    (length-known r r' (p.answer ∙ sym q.answer), p.tables ∙ sym q.tables, p.output ∙ sym q.output)
