-- Two answers that the contract of `list_table` allows are equal, and so is what they leave in the output lent.
use mathlib.Core.Path.{◌≡◌, sym, ◌∙◌}
use Rattle.definitions.proofs.KnownAnswers.{length-known}
use Rattle.house.proofs.list_table.Reads as list-table

pub list-table-one : (κs : _) (a : _) (r r' : _) (s s' : _) → list-table.Post κs a r s → list-table.Post κs a r' s'
    → (r ≡ r') × (s.1.1.1.0.now ≡ s'.1.1.1.0.now)
list-table-one κs a r r' s s' p q = (length-known r r' (p.answer ∙ sym q.answer), p.after ∙ sym q.after)
