-- `tally_terms` meets its contract: each turn counts one term (`Tallying`, proofs/Tallying.antt).
use native.Mathlib.Omega.{arith}
use mathlib.Core.Path.{◌≡◌, sym, ◌∙◌}
use mathlib.Core.List.{[], ◌∷◌}
use Prim.Native.Nat.{ℕ, ◌<◌}
use lib.IntN.{ℤ, pos}
use lib.ListN.{length, get_or, length-append}
use borrow.Author.Rules.{rules}
use mir.Syntax.{w64}
use mir.Val.{SFits}
use mir.Facts.{to_z-of_z}
use Rattle.std.proofs.lemmas.Slice.Zip.{zip_turn, zip_end}
use Rattle.definitions.specs.Row.{term}
use Rattle.shown.specs.Terms.{own_term, Shows}
use Rattle.measures.proofs.Tallying.{tallying-refused, tallying-more, tallying-all}
use Rattle.measures.proofs.terms.tally_terms.Goals as goal
use Rattle.measures.proofs.terms.tally_terms.Goals.{After-show_term-x}

-- the term of this turn
module _ (c : After-show_term-x) where
  turn : (length c.loop-weight.yielded < length c.args.weights.now) × (length c.loop-weight.yielded < length c.args.literals.now)
      × ((d : ℤ) → c.in-Some.weight.now ≡ get_or c.args.weights.now (length c.loop-weight.yielded) d)
      × ((d : ℕ) → c.in-Some.code.now ≡ get_or c.args.literals.now (length c.loop-weight.yielded) d)
  turn =
      zip_turn c.args.weights.now c.args.literals.now c.loop-weight.yielded c.into_iter-weight-iterator.result c.loop-weight.weight-iterator
      c.next.new.self _ (search rules) (search rules) c.loop-weight.yielded_by _ c.in-Some.is c.next.ensures.steps

  shows : Shows c.args.style (own_term c.args.style.unit
      (term (get_or c.args.weights.now (length c.loop-weight.yielded) (pos 0)) (get_or c.args.literals.now (length c.loop-weight.yielded) 0)))
      c.show_term-x.result
  shows =
      let w = turn.2 (pos 0) in
      let l = turn.3 0 in
      let f : SFits w64 c.in-Some.weight.now = search rules in
      rw (← w, ← l) (rw (to_z-of_z f) at c.show_term-x.ensures)

pub returns-then-not-is_lawful : goal.returns-then-not-is_lawful
returns-then-not-is_lawful c =
    let d = (goal.at.returns-then-not-is_lawful c).After-show_term-x in
    tallying-refused c.loop-weight.invariant c.requires (turn d).1 (shows d) (sym c.is_lawful.ensures ∙ c.if-not-is_lawful.true)

pub loop-weight-preserved : goal.loop-weight-preserved
loop-weight-preserved c =
    let d = (goal.at.loop-weight-preserved c).After-show_term-x in
    rw (length-append c.loop-weight.yielded ((c.in-Some.weight, c.in-Some.code) ∷ []))
    (tallying-more c.loop-weight.invariant c.requires (turn d).1 (shows d) (sym c.is_lawful.ensures ∙ c.if-not-is_lawful.false)
    c.tally_shown-t.ensures)

pub returns : goal.returns
returns c =
    let z = zip_end c.args.weights.now c.args.literals.now c.loop-weight.yielded c.into_iter-weight-iterator.result c.loop-weight.weight-iterator
    c.next.new.self _ (search rules) (search rules) c.loop-weight.yielded_by c.in-None.is c.next.ensures.steps in
    tallying-all c.loop-weight.invariant c.requires (omega (arith, z))
