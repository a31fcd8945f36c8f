-- Each public function has one possible answer for each input: two that its contract allows are equal. None changes
-- what it is lent.
use Rattle.std.specs.Prelude.{Option, Some, None, Result, Ok, Err}
use mathlib.Core.Path.{◌≡◌, refl, sym, ◌∙◌}
use Rattle.definitions.specs.declared.Refusal.{Refusal}
use Rattle.definitions.proofs.Truths.{never}
use Rattle.walker.specs.Said.{said_stepped}
use Rattle.walker.specs.declared.steps.Step.{Step}
use Rattle.walker.proofs.steps.step_at.Reads as step-at
use Rattle.walker.proofs.steps.offset_after.Reads as offset-after

same-step : (s t : Step) → s.entry ≡ t.entry → s.next ≡ t.next → ◌≡◌ {A = Result (Option Step) Refusal} (Ok (Some s)) (Ok (Some t))
same-step s t p q = rw (p, q)

-- an answer is known by what it says
pub said-stepped : (r r' : Result (Option Step) Refusal) → said_stepped r ≡ said_stepped r' → r ≡ r'
said-stepped (Ok None) (Ok None) e = refl
said-stepped (Ok None) (Ok (Some t)) e = never (cc)
said-stepped (Ok None) (Err j) e = never (cc)
said-stepped (Ok (Some s)) (Ok None) e = never (cc)
said-stepped (Ok (Some s)) (Ok (Some t)) e = let p : s.entry ≡ t.entry = cc in let q : s.next ≡ t.next = cc in same-step s t p q
said-stepped (Ok (Some s)) (Err j) e = never (cc)
said-stepped (Err i) (Ok None) e = never (cc)
said-stepped (Err i) (Ok (Some t)) e = never (cc)
said-stepped (Err i) (Err j) e = cc

pub step-at-one : (κs : _) (a : _) (r r' : _) (s s' : _) → step-at.Post κs a r s → step-at.Post κs a r' s' → r ≡ r'
step-at-one κs a r r' s s' p q = said-stepped r r' (p ∙ sym q)

pub offset-after-one : (κs : _) (a : _) (r r' : _) (s s' : _) → offset-after.Post κs a r s → offset-after.Post κs a r' s' → r ≡ r'
offset-after-one κs a r r' s s' p q = p ∙ sym q
