-- `string::check_behind` meets its contract: what is met next behind the string. Assumes nothing.
use mathlib.Core.Path.{ap}
use Rattle.items.proofs.Found.{found-end, found-line, found-token}
use Rattle.values.specs.Strings.{behind_of}
use Rattle.values.proofs.string.check_behind.Goals as goal

pub returns-in-Ok-None : goal.returns-in-Ok-None
returns-in-Ok-None c = ap (behind_of c.args.string) (found-end c.args.block.now _ (rw c.in-Ok-None.field-0-is at c.in-Ok-None.ensures))

pub returns-in-Ok-Some : goal.returns-in-Ok-Some
returns-in-Ok-Some c =
    ap (behind_of c.args.string) (found-token c.args.block.now _ c.in-Ok-Some.token (rw c.in-Ok-Some.field-0-is at c.in-Ok-Some.ensures)).0

pub returns-in-Err : goal.returns-in-Err
returns-in-Err c = ap (behind_of c.args.string) (found-line c.args.block.now _ c.in-Err.field-0 c.in-Err.ensures)
