-- Each public function has one possible answer for each input, and leaves one content in each column: two that its
-- contract allows are equal.
use Rattle.std.specs.Prelude.{Option, Some, None, Result, Ok, Err}
use mathlib.Core.Path.{◌≡◌, refl, sym, ◌∙◌}
use Rattle.definitions.specs.declared.Refusal.{Refusal}
use Rattle.definitions.proofs.Truths.{never}
use Rattle.statements.specs.Said.{said_statement}
use Rattle.statements.specs.declared.row.Line.{Line}
use Rattle.statements.proofs.statement.walk_statement.Reads as walk-statement
use Rattle.statements.proofs.statement.opb_data.Reads as opb-data

same-line : (l m : Line) → l.entry ≡ m.entry → l.taken ≡ m.taken → ◌≡◌ {A = Result (Option Line) Refusal} (Ok (Some l)) (Ok (Some m))
same-line l m p q = rw (p, q)

-- an answer is known by what it says
pub said-statement : (r r' : Result (Option Line) Refusal) → said_statement r ≡ said_statement r' → r ≡ r'
said-statement (Ok None) (Ok None) e = refl
said-statement (Ok None) (Ok (Some m)) e = never (cc)
said-statement (Ok None) (Err j) e = never (cc)
said-statement (Ok (Some l)) (Ok None) e = never (cc)
said-statement (Ok (Some l)) (Ok (Some m)) e = let p : l.entry ≡ m.entry = cc in let q : l.taken ≡ m.taken = cc in same-line l m p q
said-statement (Ok (Some l)) (Err j) e = never (cc)
said-statement (Err i) (Ok None) e = never (cc)
said-statement (Err i) (Ok (Some m)) e = never (cc)
said-statement (Err i) (Err j) e = cc

pub walk-statement-one : (κs : _) (a : _) (r r' : _) (s s' : _) → walk-statement.Post κs a r s → walk-statement.Post κs a r' s'
    → (r ≡ r') × (s.1.1.0.now ≡ s'.1.1.0.now) × (s.1.1.1.0.now ≡ s'.1.1.1.0.now)
walk-statement-one κs a r r' s s' p q = (
  said-statement r r' (p.answer ∙ sym q.answer),
  p.filled.weights ∙ sym q.filled.weights,
  p.filled.literals ∙ sym q.filled.literals,
)

pub opb-data-one : (κs : _) (a : _) (r r' : _) (s s' : _) → opb-data.Post κs a r s → opb-data.Post κs a r' s' → r ≡ r'
opb-data-one κs a r r' s s' p q = said-statement r r' (p ∙ sym q)
