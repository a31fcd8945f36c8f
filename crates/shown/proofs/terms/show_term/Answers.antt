-- `show_term` meets its contract: a weight below 0, a negated literal in no-negated mode, one with its `~`, and a plain
-- one.
use borrow.Author.Rules.{sfits_of}
use mathlib.Core.Path.{◌≡◌, sym, ap, ◌∙◌}
use mathlib.Core.Bool.{Bool}
use Prim.Native.Nat.{ℕ}
use lib.IntN.{ℤ, neg_ℤ, +ℤ_idl}
use mir.Syntax.{w64}
use mir.Val.{SFits, to_z, of_z}
use mir.Facts.{to_z-of_z}
use Rattle.definitions.specs.Literal.{index_of, negated}
use Rattle.shown.specs.Terms.{flipped_code, own_weight}
use Rattle.shown.proofs.OneTerm.{own-term, shows-as, negative_fits, shows-below, shows-fallen, shows-negated, shows-plain}
use Rattle.shown.proofs.terms.show_term.Goals as goal
use Rattle.shown.proofs.terms.show_term.Goals.{After-var, then-own-lt0-via-then-own-lt0, then-own-lt0-via-else-own-lt0+then-not-is_negated}

module _ (c : After-var) where
  abbrev own : ℤ
  own = own_weight c.args.style.unit c.args.weight

  own-fits : SFits w64 c.own_weight-own.result
  own-fits = sfits_of c.own_weight-own.type_inv

  own_is : c.own_weight-own.result ≡ own
  own_is = c.own_weight-own.ensures ∙ ap (own_weight c.args.style.unit) (to_z-of_z c.ranges.weight)

  weight_is : to_z w64 (of_z w64 c.own_weight-own.result) ≡ own
  weight_is = to_z-of_z own-fits ∙ own_is

  index_is : c.var.result.0 ≡ index_of c.args.code
  index_is = c.var.ensures ∙ ap (λ (n : ℕ). index_of n) c.of_code-l.ensures

  sign-is : (b : Bool) → b ≡ negated (flipped_code c.args.style.flip c.of_code-l.result.0) → b ≡ negated (flipped_code c.args.style.flip c.args.code)
  sign-is b e = e ∙ ap (λ (n : ℕ). negated (flipped_code c.args.style.flip n)) c.of_code-l.ensures

pub returns-then-own-lt0 : goal.returns-then-own-lt0
returns-then-own-lt0 c =
    let d = (goal.at.returns-then-own-lt0 c).After-var in
    let f = own-fits d in
    simp (to_z-of_z f)
    (shows-as
    (elim c.then-own-lt0.branch [
      | then-own-lt0-via-then-own-lt0 w ↦ shows-below c.args.style (own d) c.args.code _ (index_is d) _ _ (own_is d) (rw (weight_is d) at w.if-own-lt0.true) (own_is d)
      | then-own-lt0-via-else-own-lt0+then-not-is_negated w ↦ shows-plain c.args.style (own d) c.args.code _ (index_is d) _ _ (own_is d) (rw (weight_is d) at w.if-own-lt0.false)
          (sym (sign-is d _ w.is_negated.ensures) ∙ w.if-not-is_negated.true) (own_is d)
    ])
    (own-term c.args.style.unit c.args.weight c.args.code))

pub returns-then-style : goal.returns-then-style
returns-then-style c =
    let d = (goal.at.returns-then-style c).After-var in
    let f = own-fits d in
    let g = negative_fits _ f (simp (to_z-of_z f) at c.if-own-lt0.false) in
    simp (to_z-of_z f, to_z-of_z g)
    (shows-as
    (shows-fallen c.args.style (own d) c.args.code _ (index_is d) _ _ (own_is d) (rw (weight_is d) at c.if-own-lt0.false) c.if-style.true
    (sym (sign-is d _ c.is_negated.ensures) ∙ c.if-not-is_negated.false)
    (+ℤ_idl (neg_ℤ d.own_weight-own.result) ∙ ap neg_ℤ (own_is d)))
    (own-term c.args.style.unit c.args.weight c.args.code))

pub returns : goal.returns
returns c =
    let d = (goal.at.returns c).After-var in
    let f = own-fits d in
    simp (to_z-of_z f)
    (shows-as
    (shows-negated c.args.style (own d) c.args.code _ (index_is d) _ _ (own_is d) (rw (weight_is d) at c.if-own-lt0.false) c.if-style.false
    (sym (sign-is d _ c.is_negated.ensures) ∙ c.if-not-is_negated.false) (own_is d))
    (own-term c.args.style.unit c.args.weight c.args.code))
