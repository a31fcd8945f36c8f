-- Each public function has one possible answer for each input: two that its contract allows are equal. `next` leaves
-- one walker.
use mathlib.Core.Path.{◌≡◌, sym, ◌∙◌}
use Rattle.walker.proofs.OneAnswer.{said-stepped}
use Rattle.held_steps.proofs.step.Reads as step
use Rattle.held_steps.proofs.next.Reads as next

pub step-one : (κs : _) (a : _) (r r' : _) (s s' : _) → step.Post κs a r s → step.Post κs a r' s' → r ≡ r'
step-one κs a r r' s s' p q = said-stepped r r' (p ∙ sym q)

pub next_one : (κs : _) (a : _) (r r' : _) (s s' : _) → next.Post κs a r s → next.Post κs a r' s'
    → (r ≡ r') × (s.0.now ≡ s'.0.now)
next_one κs a r r' s s' p q = (said-stepped r r' (p.answer ∙ sym q.answer), p.after ∙ sym q.after)
