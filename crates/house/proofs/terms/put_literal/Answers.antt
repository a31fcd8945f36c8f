-- `put_literal` meets its contract: a tab, `~` where it stands, `x`, and the digits of the file number.
use native.Mathlib.Omega.{arith}
use mathlib.Core.Path.{refl, ap, ◌∙◌}
use mathlib.Core.Bool.{Bool}
use Prim.Native.Nat.{◌+◌, ◌≤◌}
use lib.ListN.{length, length-set}
use Rattle.definitions.specs.Number.{decimal}
use Rattle.laws.proofs.BytePuts.{byte-then}
use Rattle.house_lengths.specs.Words.{literal_words}
use Rattle.puts.proofs.LandLaws.{lands}
use Rattle.house.proofs.terms.put_literal.Goals as goal
use Rattle.house.proofs.terms.put_literal.Goals.{Else-tilde, Start, Then-tilde}

module _ (c : Then-tilde) where
  abbrev then-start : Start
  then-start = (goal.at.Then-tilde c).Start

  tilde-room : then-start.args.at + (length (decimal then-start.args.n.0) + 3) ≤ length then-start.args.out.now
  tilde-room = omega (arith, then-start.requires, ap (λ (b : Bool). length (literal_words b then-start.args.n.0)) c.if-tilde.true)

module _ (c : Else-tilde) where
  abbrev else-start : Start
  else-start = (goal.at.Else-tilde c).Start

  plain-room : else-start.args.at + (length (decimal else-start.args.n.0) + 2) ≤ length else-start.args.out.now
  plain-room = omega (arith, else-start.requires, ap (λ (b : Bool). length (literal_words b else-start.args.n.0)) c.if-tilde.false)

pub bounds-out-at-then-tilde : goal.bounds-out-at-then-tilde
bounds-out-at-then-tilde c = simp length-set (omega (arith, tilde-room c))

pub bounds-out-at-then-tilde-2 : goal.bounds-out-at-then-tilde-2
bounds-out-at-then-tilde-2 c = simp length-set (omega (arith, tilde-room c))

pub shape_of-out-then-tilde : goal.shape_of-out-then-tilde
shape_of-out-then-tilde c = c.put_count.auto.out ∙ simp length-set

pub returns-then-tilde : goal.returns-then-tilde
returns-then-tilde c =
    let d = (goal.at.returns-then-tilde c).Then-tilde in
    let s = then-start d in
    let h = tilde-room d in
    rw c.if-tilde.true
    (byte-then 9 s.args.at (s.args.at + 1) s.args.out.now (omega (arith, h)) refl
    (byte-then 126 (s.args.at + 1) (s.args.at + 2) _ (simp length-set (omega (arith, h))) (omega arith)
    (byte-then 120 (s.args.at + 2) (s.args.at + 3) _ (simp length-set (omega (arith, h))) (omega arith)
    (lands (decimal s.args.n.0) _ _ (rw c.number.ensures at c.put_count.ensures) (simp length-set (omega (arith, h)))))))

pub bounds-out-at-2 : goal.bounds-out-at-2
bounds-out-at-2 c = simp length-set (omega (arith, plain-room c))

pub shape_of-out : goal.shape_of-out
shape_of-out c = c.put_count-2.auto.out ∙ simp length-set

pub returns : goal.returns
returns c =
    let d = (goal.at.returns c).Else-tilde in
    let s = else-start d in
    let h = plain-room d in
    rw c.if-tilde.false
    (byte-then 9 s.args.at (s.args.at + 1) s.args.out.now (omega (arith, h)) refl
    (byte-then 120 (s.args.at + 1) (s.args.at + 2) _ (simp length-set (omega (arith, h))) (omega arith)
    (lands (decimal s.args.n.0) _ _ (rw c.number-2.ensures at c.put_count-2.ensures) (simp length-set (omega (arith, h))))))
