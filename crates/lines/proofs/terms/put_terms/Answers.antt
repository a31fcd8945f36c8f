-- `put_terms` meets its contract: each turn puts one term (`Putting`, proofs/PieceLaws.antt).
use native.Mathlib.Omega.{arith}
use mathlib.Core.Path.{◌≡◌, ap, ◌∙◌}
use mathlib.Core.List.{[], ◌∷◌}
use Prim.Native.Nat.{ℕ, ◌<◌}
use lib.IntN.{ℤ, pos}
use lib.ListN.{length, get_or, length-append}
use borrow.Author.Rules.{rules}
use mir.Syntax.{w64}
use mir.Val.{SFits}
use mir.Facts.{to_z-of_z}
use Rattle.std.proofs.lemmas.Slice.Zip.{zip_turn, zip_end}
use Rattle.definitions.specs.Row.{term}
use Rattle.puts.proofs.SeveralLaws.{each-as}
use Rattle.shown.specs.declared.terms.Shown.{Shown}
use Rattle.shown.specs.Terms.{own_term}
use Rattle.shown.specs.Sums.{sums_with}
use Rattle.lines.specs.LinePieces.{shown_pieces, shown_of}
use Rattle.lines.proofs.PieceLaws.{shown-is, putting-none, putting-more, putting-all}
use Rattle.lines.proofs.terms.put_terms.Goals as goal
use Rattle.lines.proofs.terms.put_terms.Goals.{After-show_term-x}

-- the term of this turn
module _ (c : After-show_term-x) where
  turn : (length c.loop-weight.yielded < length c.args.weights.now) × (length c.loop-weight.yielded < length c.args.literals.now)
      × ((d : ℤ) → c.in-Some.weight.now ≡ get_or c.args.weights.now (length c.loop-weight.yielded) d)
      × ((d : ℕ) → c.in-Some.code.now ≡ get_or c.args.literals.now (length c.loop-weight.yielded) d)
  turn =
      zip_turn c.args.weights.now c.args.literals.now c.loop-weight.yielded c.into_iter-weight-iterator.result c.loop-weight.weight-iterator
      c.next.new.self _ (search rules) (search rules) c.loop-weight.yielded_by _ c.in-Some.is c.next.ensures.steps

  shown : c.show_term-x.result ≡ shown_of c.args.style (own_term c.args.style.unit
      (term (get_or c.args.weights.now (length c.loop-weight.yielded) (pos 0)) (get_or c.args.literals.now (length c.loop-weight.yielded) 0)))
  shown =
      let w = turn.2 (pos 0) in
      let l = turn.3 0 in
      let f : SFits w64 c.in-Some.weight.now = search rules in
      shown-is (rw (← w, ← l) (rw (to_z-of_z f) at c.show_term-x.ensures))

pub loop-weight-init : goal.loop-weight-init
loop-weight-init c = putting-none

pub loop-weight-preserved : goal.loop-weight-preserved
loop-weight-preserved c =
    let d = (goal.at.loop-weight-preserved c).After-show_term-x in
    let f : SFits w64 c.show_term-x.result.own = search rules in
    rw (length-append c.loop-weight.yielded ((c.in-Some.weight, c.in-Some.code) ∷ []))
    (putting-more c.loop-weight.invariant (omega (arith, (turn d).0, (turn d).1))
    (each-as c.put_shown-end.ensures (ap (shown_pieces c.args.style) (shown d)))
    (c.with_weight-sums.ensures
    ∙ ap (λ (z : ℤ). sums_with c.loop-weight.sums z c.show_term-x.result.falls) (to_z-of_z f)
    ∙ ap (λ (x : Shown). sums_with c.loop-weight.sums x.own x.falls) (shown d))
    c.put_shown-end.auto.out)

pub shape_of-out : goal.shape_of-out
shape_of-out c = c.loop-weight.invariant.long

pub returns : goal.returns
returns c =
    let z = zip_end c.args.weights.now c.args.literals.now c.loop-weight.yielded c.into_iter-weight-iterator.result c.loop-weight.weight-iterator
    c.next.new.self _ (search rules) (search rules) c.loop-weight.yielded_by c.in-None.is c.next.ensures.steps in
    putting-all c.loop-weight.invariant (omega (arith, z))
