-- Two answers that the contract of the public function allows are equal, and so is what they leave in the output lent.
use mathlib.Core.Path.{◌≡◌, sym, ◌∙◌}
use Rattle.lines.proofs.put_row.Reads as put-row

pub put-row-one : (κs : _) (a : _) (r r' : _) (s s' : _) → put-row.Post κs a r s → put-row.Post κs a r' s'
    → (r ≡ r') × (s.1.1.1.1.0.now ≡ s'.1.1.1.1.0.now)
put-row-one κs a r r' s s' p q = (p.place ∙ sym q.place, p.after ∙ sym q.after)
