-- `normaliser::fill::fill_terms` meets its contract. The loop's invariant: the first i terms, normal, stand in both
-- columns (`Written`, proofs/NormalTerms.antt). Assumes nothing.
use mathlib.Core.Path.{◌≡◌, sym, ap, ◌∙◌}
use mathlib.Core.List.{List, map-map}
use Prim.Native.Nat.{ℕ}
use native.Mathlib.Omega.{arith}
use borrow.Author.Rules.{rules}
use lib.IntN.{ℤ, pos}
use lib.ListN.{get_or}
use mir.Syntax.{w64}
use mir.Val.{SFits}
use mir.Facts.{to_z-of_z}
use Rattle.definitions.specs.Lists.{over}
use Rattle.definitions.specs.Row.{Term, term, weight_of, literal_of}
use Rattle.definitions.specs.Table.{terms_on}
use Rattle.definitions.specs.Normal.{normal_by, normal_term}
use Rattle.normaliser.specs.Fill.{said_term}
use Rattle.normaliser.proofs.NormalTerms.{size-of-one, written_none, written-more, written_all}
use Rattle.normaliser.proofs.fill.fill_terms.Invariants.{literal_to, weight_to}
use Rattle.normaliser.proofs.fill.fill_terms.Goals as goal

pub loop-i-init : goal.loop-i-init
loop-i-init c =
    let a = c.args in
    (written_none weight_to a.weights.now a.literals.now _, written_none literal_to a.weights.now a.literals.now _)

pub normal_term-term-requires : goal.normal_term-term-requires
normal_term-term-requires c =
    let f : SFits w64 (get_or c.args.weights.now c.loop-i.i (pos 0)) = search rules in
    rw (to_z-of_z f) (omega (arith, size-of-one c.args.weights.now c.loop-i.i c.loop-i-test.true, c.requires.small))

pub loop-i-preserved : goal.loop-i-preserved
unfolding normal_term
loop-i-preserved c =
    let a = c.args in
    let l = c.loop-i in
    let h = c.loop-i-test.true in
    let read : Term = term (get_or a.weights.now l.i (pos 0)) (get_or a.literals.now l.i 0) in
    let f : SFits w64 read.weight = search rules in
    let g : SFits w64 c.normal_term-term.result.weight = search rules in
    let made : said_term c.normal_term-term.result ≡ normal_term read =
    (rw (to_z-of_z f) at c.normal_term-term.ensures) ∙ ap (normal_by read.weight) c.of_code.ensures in (
      written-more weight_to a.weights.now a.literals.now a.outweights.now c.requires.even c.requires.weights l.outweights l.i
          (omega (arith, h)) l.invariant.0 h _ (to_z-of_z g ∙ ap weight_of made),
      written-more literal_to a.weights.now a.literals.now a.outliterals.now c.requires.even c.requires.literals l.outliterals l.i
          (omega (arith, h)) l.invariant.1 h _ (c.code.ensures ∙ ap literal_of made),
    )

pub returns : goal.returns
returns c =
    let a = c.args in
    let l = c.loop-i in
    let ws = a.weights.now in
    let cs = a.literals.now in
    record {
      weights =
          written_all weight_to ws cs a.outweights.now c.requires.even c.requires.weights l.outweights l.i
          (omega arith) l.invariant.0 c.loop-i-test.false
          ∙ ap (λ (xs : List ℤ). over xs a.outweights.now) (sym (map-map weight_of normal_term (terms_on ws cs)));
      literals =
          written_all literal_to ws cs a.outliterals.now c.requires.even c.requires.literals l.outliterals l.i
          (omega arith) l.invariant.1 c.loop-i-test.false
          ∙ ap (λ (xs : List ℕ). over xs a.outliterals.now) (sym (map-map literal_of normal_term (terms_on ws cs)));
    }
