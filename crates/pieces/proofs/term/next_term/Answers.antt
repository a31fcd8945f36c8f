-- `next_term` meets its contract: a digit or sign is what begins a constraint, and there a term is read
-- (proofs/Terms.antt).
use borrow.Enum.Refused.{opened}
use Rattle.pieces.proofs.Terms.{step-stop}
use Rattle.pieces.proofs.term.next_term.Goals as goal

pub returns-in_default : goal.returns-in_default
returns-in_default c = step-stop _ _ c.if-s-eq0.false _ c.beginning_of.ensures (opened c.in_default.in_default-own.keys2)
