-- Each call has one possible answer for each input, and leaves one content in the output: two that its contract allows
-- are equal.
use mathlib.Core.Path.{◌≡◌, sym, ◌∙◌}
use Rattle.opb_texts.proofs.opb_write.Reads as opb-write
use Rattle.opb_texts.proofs.opb_list.Reads as opb-list

pub opb-write-one : (κs : _) (a : _) (r r' : _) (s s' : _) → opb-write.Post κs a r s → opb-write.Post κs a r' s'
    → (r ≡ r') × (s.1.1.1.1.1.1.1.1.1.0.now ≡ s'.1.1.1.1.1.1.1.1.1.0.now)
opb-write-one κs a r r' s s' p q = (p.answer ∙ sym q.answer, p.after ∙ sym q.after)

pub opb-list-one : (κs : _) (a : _) (r r' : _) (s s' : _) → opb-list.Post κs a r s → opb-list.Post κs a r' s'
    → (r ≡ r') × (s.1.1.1.1.1.1.1.1.0.now ≡ s'.1.1.1.1.1.1.1.1.0.now)
opb-list-one κs a r r' s s' p q = (p.answer ∙ sym q.answer, p.after ∙ sym q.after)
