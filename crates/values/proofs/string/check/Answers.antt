-- `string::check` meets its contract: nothing, a line without `v`, or the one string of the block (proofs/Checks.antt).
-- Assumes nothing.
use mathlib.Core.List.{[]}
use Rattle.items.proofs.Found.{found-end, found-line, found-token}
use Rattle.values.proofs.Checks.{hear-nothing, hear-line, met-within, met-answer}
use Rattle.values.proofs.string.check.Goals as goal

pub check_at-requires : goal.check_at-requires
check_at-requires c =
    let m = found-token c.args.block.now _ c.in-Ok-Some.string (rw c.in-Ok-Some.field-0-is at c.in-Ok-Some.ensures) in
    record { within = met-within 0 [] [] _ c.requires.form _ m.0; ends = m.1 }

pub returns-in-Ok-None : goal.returns-in-Ok-None
returns-in-Ok-None c =
    record { result_value = hear-nothing _ _ _ _ _ (found-end c.args.block.now _ (rw c.in-Ok-None.field-0-is at c.in-Ok-None.ensures)); fits = tt }

pub returns-in-Ok-Some : goal.returns-in-Ok-Some
returns-in-Ok-Some c =
    let m = found-token c.args.block.now _ c.in-Ok-Some.string (rw c.in-Ok-Some.field-0-is at c.in-Ok-Some.ensures) in
    let p = met-answer _ _ _ _ c.requires.form _ m.0 _ c.check_at.ensures in
    record { result_value = p.0; fits = p.1 }

pub returns-in-Err : goal.returns-in-Err
returns-in-Err c = record { result_value = hear-line _ _ _ _ _ _ (found-line c.args.block.now _ c.in-Err.field-0 c.in-Err.ensures); fits = tt }
