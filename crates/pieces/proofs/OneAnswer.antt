-- Each public function has one possible answer for each input: two that its contract allows are equal. None changes
-- what it is lent.
use mathlib.Core.Path.{◌≡◌, refl, sym, ap, ◌∙◌}
use lib.IntN.{ℤ}
use Rattle.std.specs.Prelude.{Option, Some, None, Result, Ok, Err}
use Rattle.definitions.specs.declared.Fault.{Fault}
use Rattle.definitions.specs.Refusal.{fault_at, fault_of}
use Rattle.definitions.specs.Row.{Term, term}
use Rattle.literals.specs.declared.Lit.{Lit}
use Rattle.literals.proofs.OneAnswer.{same-lit}
use Rattle.pieces.specs.Said.{said_term, said_next}
use Rattle.pieces.specs.declared.term.Term.{Term as TermRead}
use Rattle.pieces.proofs.term.read_term.Reads as read-term
use Rattle.pieces.proofs.term.next_term.Reads as next-term

-- ---- an answer is known by what it says

same-term : (w w' : ℤ) (l l' : Lit) → term w l.0 ≡ term w' l'.0 → (w ≡ w') × (l ≡ l')
same-term w w' l l' e = (ap (λ (t : Term). t.weight) e, same-lit l l' (ap (λ (t : Term). t.code) e))

same-read : (t t' : TermRead) → term t.weight t.literal.0 ≡ term t'.weight t'.literal.0 → t.taken ≡ t'.taken → t ≡ t'
same-read t t' e q =
    let p = same-term t.weight t'.weight t.literal t'.literal e in
    λ i. record { weight = p.0 i; literal = p.1 i; taken = q i }

pub said-term : (r r' : Result TermRead Fault) → said_term r ≡ said_term r' → r ≡ r'
said-term (Ok t) (Ok t') e = ap Ok (same-read t t' (cc) (cc))
said-term (Ok t) (Err k) e = cc
said-term (Err k) (Ok t) e = cc
said-term (Err k) (Err k') e = cc

pub said-next : (r r' : Result (Option TermRead) Fault) → said_next r ≡ said_next r' → r ≡ r'
said-next (Ok (Some t)) (Ok (Some t')) e = ap (λ r. Ok (Some r)) (same-read t t' (cc) (cc))
said-next (Ok (Some t)) (Ok None) e = cc
said-next (Ok (Some t)) (Err k) e = cc
said-next (Ok None) (Ok (Some t)) e = cc
said-next (Ok None) (Ok None) e = refl
said-next (Ok None) (Err k) e = cc
said-next (Err k) (Ok (Some t)) e = cc
said-next (Err k) (Ok None) e = cc
said-next (Err k) (Err k') e = let p : fault_at 0 k ≡ fault_at 0 k' = cc in ap (λ r. Err (fault_of r)) p

-- ---- the functions

pub read-term-one : (κs : _) (a : _) (r r' : _) (s s' : _) → read-term.Post κs a r s → read-term.Post κs a r' s' → r ≡ r'
read-term-one κs a r r' s s' p q = said-term r r' (p ∙ sym q)

pub next-term-one : (κs : _) (a : _) (r r' : _) (s s' : _) → next-term.Post κs a r s → next-term.Post κs a r' s' → r ≡ r'
next-term-one κs a r r' s s' p q = said-next r r' (p ∙ sym q)
