-- `summed::sum_of` meets its contract. The loop's invariant: the sum of the terms passed. Each sum is in 64 signed bits
-- since the absolute weights together are at most M (`sum-to-in`, proofs/SumLaws.antt). Assumes nothing.
use Rattle.std.proofs.Common.{refl, sym, ◌∙◌, pos, w64, FitsSigned, rules}
use Rattle.std.proofs.lemmas.List.{length_push}
use Rattle.std.proofs.lemmas.Slice.Zip.{zip_turn}
use mir.Facts.{to_z-of_z}
use Rattle.definitions.specs.Table.{terms_on}
use Rattle.definitions.specs.Meaning.{sum_of, assigned}
use Rattle.summed.proofs.Literals.{covered-at}
use Rattle.summed.proofs.SumLaws.{sum-to-in, sum-true, sum-false}
use Rattle.summed.proofs.sum_of.Goals as goal

pub loop-weight-init : goal.loop-weight-init
unfolding sum_of terms_on
loop-weight-init c = refl

pub is_true-requires : goal.is_true-requires
is_true-requires c =
    let a = c.args in
    let t = zip_turn a.weights.now a.literals.now _ _ _ c.next.new.self _ (cc) (cc) c.loop-weight.yielded_by _ c.in-Some.is c.next.ensures.steps in
    rw (c.of_code.ensures, t.3 0) (covered-at a.words.now a.literals.now _ c.requires.covers t.1)

pub overflow_add-sum : goal.overflow_add-sum
overflow_add-sum c =
    let a = c.args in
    let t = zip_turn a.weights.now a.literals.now _ _ _ c.next.new.self _ (cc) (cc) c.loop-weight.yielded_by _ c.in-Some.is c.next.ensures.steps in
    let f : FitsSigned w64 c.in-Some.weight.now = search rules in
    let e = sum-true (assigned a.words.now) a.weights.now a.literals.now _ t.0 t.1 _ _ (t.2 (pos 0)) (c.of_code.ensures ∙ t.3 0) (sym c.is_true.ensures ∙ c.if-is_true.true) in
    rw (c.loop-weight.invariant, to_z-of_z f, e) (sum-to-in _ _ _ _ c.requires.small)

pub loop-weight-preserved-then-is_true : goal.loop-weight-preserved-then-is_true
loop-weight-preserved-then-is_true c =
    let a = c.args in
    let t = zip_turn a.weights.now a.literals.now _ _ _ c.next.new.self _ (cc) (cc) c.loop-weight.yielded_by _ c.in-Some.is c.next.ensures.steps in
    let f : FitsSigned w64 c.in-Some.weight.now = search rules in
    let e = sum-true (assigned a.words.now) a.weights.now a.literals.now _ t.0 t.1 _ _ (t.2 (pos 0)) (c.of_code.ensures ∙ t.3 0) (sym c.is_true.ensures ∙ c.if-is_true.true) in
    rw (length_push, c.loop-weight.invariant, to_z-of_z f, e) (to_z-of_z (sum-to-in _ _ _ _ c.requires.small))

pub loop-weight-preserved : goal.loop-weight-preserved
loop-weight-preserved c =
    let a = c.args in
    let t = zip_turn a.weights.now a.literals.now _ _ _ c.next.new.self _ (cc) (cc) c.loop-weight.yielded_by _ c.in-Some.is c.next.ensures.steps in
    rw length_push
    (c.loop-weight.invariant
    ∙ sum-false (assigned a.words.now) a.weights.now a.literals.now _ t.0 t.1 c.in-Some.weight.now _ (t.2 (pos 0)) (c.of_code.ensures ∙ t.3 0) (sym c.is_true.ensures ∙ c.if-is_true.false))
