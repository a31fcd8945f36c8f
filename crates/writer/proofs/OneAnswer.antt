-- Two answers that the contract of the public function allows are equal, and so is what they leave in the output lent.
use mathlib.Core.Path.{◌≡◌, sym, ◌∙◌}
use Rattle.definitions.proofs.KnownAnswers.{length-known}
use Rattle.writer.proofs.write_opb_lines.Reads as write-opb-lines

pub write-opb-lines-one : (κs : _) (a : _) (r r' : _) (s s' : _) → write-opb-lines.Post κs a r s → write-opb-lines.Post κs a r' s'
    → (r ≡ r') × (s.1.1.1.0.now ≡ s'.1.1.1.0.now)
write-opb-lines-one κs a r r' s s' p q = (length-known r r' (p.answer ∙ sym q.answer), p.after ∙ sym q.after)
