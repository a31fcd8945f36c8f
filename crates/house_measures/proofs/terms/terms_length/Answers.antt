-- `terms_length` meets its contract: each turn adds the length of one term that has a file number (`TermsAt`,
-- proofs/TermsWalk.antt).
use native.Mathlib.Omega.{arith}
use mathlib.Core.Path.{refl, ap}
use lib.IntN.{pos}
use lib.ListN.{length-append}
use borrow.Author.Rules.{sfits_of}
use mir.Facts.{to_z-of_z}
use Rattle.std.proofs.Common.{rules}
use Rattle.std.proofs.lemmas.Slice.Zip.{zip_turn, zip_end}
use Rattle.definitions.specs.Refusal.{needed, accept}
use Rattle.house_lengths.proofs.Fields.{needed-more, counted_is, counted_none}
use Rattle.house_measures.proofs.TermsWalk.{terms-none, terms-more, terms-all, terms-numbered, terms-unnumbered}
use Rattle.house_measures.proofs.terms.terms_length.Goals as goal

pub loop-weight-init : goal.loop-weight-init
loop-weight-init c = terms-none _ _ _ (unfold needed in refl)

pub returns-in_err-length : goal.returns-in_err-length
returns-in_err-length c =
    let t = zip_turn c.args.weights.now c.args.literals.now _ c.into_iter-weight-iterator.result _ c.next.new.self _ (search rules) (search rules) c.loop-weight.yielded_by _ c.in-Some.is c.next.ensures.steps in
    let said = rw (to_z-of_z (sfits_of c.term_length-arg-1.given), c.of_code.ensures, t.2 (pos 0), t.3 0) at c.term_length.ensures in
    rw (c.from_residual.ensures, terms-unnumbered c.loop-weight.invariant c.requires t.1 (counted_none _ _ _ _ said c.in_err-length.was))

pub loop-weight-preserved : goal.loop-weight-preserved
loop-weight-preserved c =
    let t = zip_turn c.args.weights.now c.args.literals.now _ c.into_iter-weight-iterator.result _ c.next.new.self _ (search rules) (search rules) c.loop-weight.yielded_by _ c.in-Some.is c.next.ensures.steps in
    let said = rw (to_z-of_z (sfits_of c.term_length-arg-1.given), c.of_code.ensures, t.2 (pos 0), t.3 0) at c.term_length.ensures in
    let i = c.loop-weight.invariant in
    let g = counted_is _ _ _ _ said _ c.in_ok-length.was in
    rw (length-append c.loop-weight.yielded _)
    (terms-more i c.requires t.1 g.0 (needed-more i.text _ i.holds g.1 c.add_needed-total.ensures))

pub returns : goal.returns
returns c =
    let e = zip_end c.args.weights.now c.args.literals.now _ c.into_iter-weight-iterator.result _ c.next.new.self _ (search rules) (search rules) c.loop-weight.yielded_by c.in-None.is c.next.ensures.steps in
    let i = c.loop-weight.invariant in
    rw (terms-numbered i c.requires (omega (arith, e, c.requires))) (ap accept (terms-all i c.requires (omega (arith, e, c.requires))))
