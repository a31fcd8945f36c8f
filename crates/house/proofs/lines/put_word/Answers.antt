-- `put_word` meets its contract: the word of each kind.
use Rattle.columns.proofs.KindNumbers.{kind-at-least, kind-at-most, kind-equal, kind-objective}
use Rattle.puts.proofs.LandLaws.{lands}
use Rattle.house.proofs.lines.put_word.Goals as goal

pub returns-in-1 : goal.returns-in-1
returns-in-1 c =
    let k = kind-at-least _ c.in-1.is in
    rw k (lands _ _ _ c.put_text.ensures (rw k at c.requires))

pub returns-in-2 : goal.returns-in-2
returns-in-2 c =
    let k = kind-at-most _ c.in-2.is in
    rw k (lands _ _ _ c.put_text-in-2.ensures (rw k at c.requires))

pub returns-in-3 : goal.returns-in-3
returns-in-3 c =
    let k = kind-equal _ c.in-3.is in
    rw k (lands _ _ _ c.put_text-in-3.ensures (rw k at c.requires))

pub returns-in_default : goal.returns-in_default
returns-in_default c =
    let k = kind-objective _ c.in_default.in_default-own.rest.0.0.1 c.in_default.in_default-own.rest.0.1 c.in_default.in_default-own.rest.1 in
    rw k (lands _ _ _ c.put_text-in_default.ensures (rw k at c.requires))
