-- `tally_shown` meets its contract: the sums grow, and where the variable has a file number so does the length.
use borrow.Author.Rules.{rules}
use mathlib.Core.Path.{◌≡◌, ap, ◌∙◌}
use Prim.Native.Nat.{ℕ, ◌+◌}
use mir.Syntax.{w64}
use mir.Val.{SFits}
use mir.Facts.{to_z-of_z}
use Rattle.definitions.specs.Refusal.{needed}
use Rattle.shown.specs.Sums.{sums_with}
use Rattle.literals.proofs.Numbered.{number_is, no_number}
use Rattle.measures.proofs.Tallying.{tally-numbered, tally-unnumbered}
use Rattle.measures.proofs.terms.tally_shown.Goals as goal
use Rattle.measures.proofs.terms.tally_shown.Goals.{After-of, Start}

module _ (c : After-of) where
  abbrev start : Start
  start = (goal.at.After-of c).Start

  weighed : c.with_weight-sums.result ≡ sums_with start.args.t.sums start.args.x.own start.args.x.falls
  weighed =
      let f : SFits w64 start.args.x.own = search rules in
      c.with_weight-sums.ensures ∙ rw (to_z-of_z f)

pub returns-in-Some : goal.returns-in-Some
returns-in-Some c =
    let s = start (goal.at.returns-in-Some c).After-of in
    let g = number_is _ _ _ c.of.ensures _ c.in-Some.is in
    tally-numbered s.args.style s.args.t s.args.x (weighed (goal.at.returns-in-Some c).After-of)
    _ _ g.0 g.1 (c.add_needed.ensures ∙ ap (λ (m : ℕ). needed (s.args.t.length + m)) c.term_length.ensures)

pub returns-in-None : goal.returns-in-None
returns-in-None c =
    let s = start (goal.at.returns-in-None c).After-of in
    tally-unnumbered s.args.style s.args.t s.args.x (weighed (goal.at.returns-in-None c).After-of) (no_number _ _ _ c.of.ensures c.in-None.is)
