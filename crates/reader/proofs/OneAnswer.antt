-- Each public function has one possible answer for each input, and leaves one content in each column: two that its
-- contract allows are equal.
use mathlib.Core.Path.{◌≡◌, sym, ◌∙◌}
use Rattle.definitions.specs.Table.{table}
use Rattle.definitions.proofs.KnownAnswers.{counted-known}
use Rattle.reader.proofs.file.parse_opb_data.Reads as parse-opb-data

pub parse-opb-data-one : (κs : _) (a : _) (r r' : _) (s s' : _) → parse-opb-data.Post κs a r s → parse-opb-data.Post κs a r' s'
    → (r ≡ r')
    × (table s.1.1.0.now s.1.1.1.0.now s.1.1.1.1.0.now s.1.1.1.1.1.0.now
    s.1.1.1.1.1.1.0.now s.1.1.1.1.1.1.1.0.now
    ≡ table s'.1.1.0.now s'.1.1.1.0.now s'.1.1.1.1.0.now s'.1.1.1.1.1.0.now
    s'.1.1.1.1.1.1.0.now s'.1.1.1.1.1.1.1.0.now)
parse-opb-data-one κs a r r' s s' p q = (counted-known r r' (p.answer ∙ sym q.answer), p.after ∙ sym q.after)
