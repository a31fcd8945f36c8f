-- `read_kind` meets its contract: each number is the definition's kind (columns/proofs/KindNumbers.antt).
use mathlib.Core.Path.{sym}
use Rattle.columns.proofs.KindNumbers.{kind-at-least, kind-at-most, kind-equal, kind-objective}
use Rattle.kinds.proofs.read_kind.Goals as goal

pub returns-in-1 : goal.returns-in-1
returns-in-1 c = sym (kind-at-least _ c.in-1.is)

pub returns-in-2 : goal.returns-in-2
returns-in-2 c = sym (kind-at-most _ c.in-2.is)

pub returns-in-3 : goal.returns-in-3
returns-in-3 c = sym (kind-equal _ c.in-3.is)

pub returns-in_default : goal.returns-in_default
returns-in_default c = let r = c.in_default.in_default-own.rest in sym (kind-objective _ r.0.0.1 r.0.1 r.1)
