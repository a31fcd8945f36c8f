-- `read_literals` meets its contract: what is heard of the block, 12, or both rows with their bits
-- (proofs/Reading.antt). Assumes nothing.
use mathlib.Core.Path.{◌≡◌}
use mathlib.Core.List.{List, map}
use Prim.Native.Nat.{ℕ}
use Rattle.std.proofs.lemmas.Result.{err_from_is_err_and}
use Rattle.definitions.specs.Table.{accepted}
use Rattle.definitions.specs.Values.{front, items_from, length_after}
use Rattle.settling.specs.Flat.{said_by, code_in}
use Rattle.values.proofs.Reading.{Heard, literals-refused, literals-said, read-refused, read_short, read-fine}
use Rattle.values.proofs.read_literals.Goals as goal
use Rattle.values.proofs.read_literals.Goals.{In_ok-heard}

-- nothing is refused
module _ (c : In_ok-heard) where
  abbrev codes : List ℕ
  codes = map code_in (said_by c.args.named (items_from front 0 c.args.block.now))

  all : (Heard c.args.block.now c.args.kept c.args.values.now c.args.known.now ≡ accepted codes) × (c.in_ok-heard.heard ≡ length_after c.args.kept codes)
  all = literals-said _ c.args.named _ _ _ c.requires.form _ c.in_ok-heard.ensures

pub returns-in_err-heard : goal.returns-in_err-heard
returns-in_err-heard c =
    let p = err_from_is_err_and c.from_residual.result c.from_residual.ensures.1 in
    rw (p.1, p.2)
    (read-refused _ _ _ _ c.requires.some _ (literals-refused _ c.args.named _ _ _ c.requires.form _ c.in_err-heard.ensures))

pub returns-in_err-after : goal.returns-in_err-after
returns-in_err-after c =
    let p = err_from_is_err_and c.from_residual-in_err-after.result c.from_residual-in_err-after.ensures.1 in
    let a = all (goal.at.returns-in_err-after c).In_ok-heard in
    rw (p.1, p.2) (read_short _ _ _ _ c.requires.some _ a.0 _ a.1 _ c.in_err-after.ensures)

pub returns : goal.returns
returns c =
    let a = all (goal.at.returns c).In_ok-heard in
    read-fine _ _ _ _ c.requires.some _ a.0 _ a.1 _ _ _ c.in_ok-after.ensures c.settle.ensures.values c.settle.ensures.known
