-- Two answers that the contract of a public function allows are equal, and so is what they leave in the output lent.
use mathlib.Core.Path.{◌≡◌, sym, ◌∙◌}
use Rattle.outputs.proofs.OneAnswer.{put_one}
use Rattle.refusals.proofs.list_refusal.Reads as list-refusal
use Rattle.refusals.proofs.refusal_length.Reads as refusal-length

pub list-refusal-one : (κs : _) (a : _) (r r' : _) (s s' : _) → list-refusal.Post κs a r s → list-refusal.Post κs a r' s'
    → (r ≡ r') × (s.1.1.0.now ≡ s'.1.1.0.now)
list-refusal-one κs a r r' s s' p q = (put_one r r' (p.answer ∙ sym q.answer), p.after ∙ sym q.after)

pub refusal-length-one : (κs : _) (a : _) (r r' : _) (s s' : _) → refusal-length.Post κs a r s → refusal-length.Post κs a r' s' → r ≡ r'
refusal-length-one κs a r r' s s' p q = p ∙ sym q
