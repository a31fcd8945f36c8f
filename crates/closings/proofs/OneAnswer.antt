-- Each public function has one possible answer for each input: two that its contract allows are equal. None changes
-- what it is lent.
use mathlib.Core.Path.{◌≡◌, sym, ◌∙◌}
use Rattle.closings.specs.Closed.{said_row}
use Rattle.definitions.specs.declared.Entry.{Entry}
use Rattle.definitions.specs.declared.Fault.{Fault}
use Rattle.std.specs.Prelude.{ℕ, Result, Ok, Err}
use Rattle.closings.proofs.close_constraint.Reads as close-constraint
use Rattle.closings.proofs.close_objective.Reads as close-objective

-- an answer is known by what it says
pub said_row_lem : (r r' : Result (Entry × ℕ) Fault) → said_row r ≡ said_row r' → r ≡ r'
said_row_lem (Ok (x, n)) (Ok (y, m)) e = cc
said_row_lem (Ok (x, n)) (Err j) e = cc
said_row_lem (Err i) (Ok (y, m)) e = cc
said_row_lem (Err i) (Err j) e = cc

pub close-constraint-one : (κs : _) (a : _) (r r' : _) (s s' : _) → close-constraint.Post κs a r s → close-constraint.Post κs a r' s'
    → r ≡ r'
close-constraint-one κs a r r' s s' p q = said_row_lem r r' (p ∙ sym q)

pub close-objective-one : (κs : _) (a : _) (r r' : _) (s s' : _) → close-objective.Post κs a r s → close-objective.Post κs a r' s'
    → r ≡ r'
close-objective-one κs a r r' s s' p q = said_row_lem r r' (p ∙ sym q)
