-- `put_terms` meets its contract: each turn puts one term behind the others (`TermsAt`, house_measures'
-- proofs/TermsWalk.antt).
use native.Mathlib.Omega.{arith}
use lib.IntN.{pos}
use lib.ListN.{length-append}
use borrow.Author.Rules.{sfits_of}
use mir.Facts.{to_z-of_z}
use Rattle.std.proofs.Common.{rules}
use Rattle.std.proofs.lemmas.Slice.Zip.{zip_turn, zip_end}
use Rattle.laws.proofs.Puts.{puts_none, puts_then}
use Rattle.house_measures.proofs.TermsWalk.{terms-none, terms-more, terms-within, terms-number, terms-all}
use Rattle.house.proofs.terms.put_terms.Goals as goal

pub loop-weight-init : goal.loop-weight-init
loop-weight-init c = terms-none _ _ _ (puts_none _ _)

pub put_term-end-requires : goal.put_term-end-requires
put_term-end-requires c =
    let t = zip_turn c.args.weights.now c.args.literals.now _ c.into_iter-weight-iterator.result _ c.next.new.self _ (search rules) (search rules) c.loop-weight.yielded_by _ c.in-Some.is c.next.ensures.steps in
    let i = c.loop-weight.invariant in
    let w = terms-within i c.requires.long t.1 in
    rw (to_z-of_z (sfits_of c.put_term-arg-1.given), c.of_code.ensures, t.2 (pos 0), t.3 0)
    (record {
      number = terms-number i c.requires.long t.1 c.requires.numbers;
      room = omega (arith, c.requires.room, i.holds.place, c.loop-weight.auto.out, w);
    })

pub loop-weight-preserved : goal.loop-weight-preserved
loop-weight-preserved c =
    let t = zip_turn c.args.weights.now c.args.literals.now _ c.into_iter-weight-iterator.result _ c.next.new.self _ (search rules) (search rules) c.loop-weight.yielded_by _ c.in-Some.is c.next.ensures.steps in
    let i = c.loop-weight.invariant in
    let w = terms-within i c.requires.long t.1 in
    let put = rw (to_z-of_z (sfits_of c.put_term-arg-1.given), c.of_code.ensures, t.2 (pos 0), t.3 0) at c.put_term-end.ensures in
    rw (length-append c.loop-weight.yielded _)
    (terms-more i c.requires.long t.1 (terms-number i c.requires.long t.1 c.requires.numbers)
    (puts_then i.holds (omega (arith, c.requires.room, w)) put))

pub returns : goal.returns
returns c =
    let e = zip_end c.args.weights.now c.args.literals.now _ c.into_iter-weight-iterator.result _ c.next.new.self _ (search rules) (search rules) c.loop-weight.yielded_by c.in-None.is c.next.ensures.steps in
    terms-all c.loop-weight.invariant c.requires.long (omega (arith, e, c.requires.long))
