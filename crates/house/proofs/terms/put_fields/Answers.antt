-- `put_fields` meets its contract: a tab and the weight, and the literal behind them.
use native.Mathlib.Omega.{arith}
use mathlib.Core.Path.{◌≡◌, refl, ◌∙◌}
use Prim.Native.Nat.{◌+◌, ◌≤◌}
use lib.ListN.{length, length-set}
use mir.Facts.{to_z-of_z}
use Rattle.definitions.specs.Number.{integer_text}
use Rattle.definitions.specs.House.{field}
use Rattle.laws.proofs.Puts.{Puts, puts-length, puts_then}
use Rattle.laws.proofs.BytePuts.{byte-then}
use Rattle.house_lengths.specs.Words.{literal_words}
use Rattle.house_lengths.proofs.Fields.{words-length}
use Rattle.puts.proofs.LandLaws.{lands}
use Rattle.house.proofs.terms.put_fields.Goals as goal
use Rattle.house.proofs.terms.put_fields.Goals.{After-put_number-end, Start}

room : (s : Start)
    → s.args.at + (length (integer_text s.args.w) + length (literal_words s.args.tilde s.args.n.0) + 2) ≤ length
    s.args.out.now
room s = omega (arith, s.requires, words-length s.args.w s.args.tilde s.args.n.0)

module _ (c : After-put_number-end) where
  abbrev start : Start
  start = (goal.at.After-put_number-end c).Start

  weight-put : Puts (field (integer_text start.args.w)) start.args.at start.args.out.now c.put_number-end.result
      c.put_number-end.new.out
  weight-put =
      byte-then 9 start.args.at (start.args.at + 1) start.args.out.now (omega (arith, room start)) refl
      (lands (integer_text start.args.w) _ _ (rw (to_z-of_z start.ranges.w) at c.put_number-end.ensures)
      (simp length-set (omega (arith, room start))))

  weight-long : length c.put_number-end.new.out ≡ length start.args.out.now
  weight-long = puts-length weight-put (omega (arith, room start))

pub bounds-out-at : goal.bounds-out-at
bounds-out-at c = omega (arith, room (goal.at.bounds-out-at c).Start)

pub put_literal-requires : goal.put_literal-requires
put_literal-requires c =
    let d = (goal.at.put_literal-requires c).After-put_number-end in
    omega (arith, room (start d), (weight-put d).place, weight-long d)

pub shape_of-out : goal.shape_of-out
shape_of-out c = c.put_literal.auto.out ∙ weight-long (goal.at.shape_of-out c).After-put_number-end

pub returns : goal.returns
returns c =
    let d = (goal.at.returns c).After-put_number-end in
    puts_then (weight-put d) (omega (arith, room (start d))) c.put_literal.ensures
